-- A row is the list of its columns.
use Rattle.std.proofs.Common.{◌≡◌, [], ◌∷◌, length, refl, ◌∙◌, arith}
use Rattle.sqlite.specs.declared.types.Value.{Value}
use Rattle.sqlite.specs.Order.{Row, column}

one : (row : Row) → length row ≡ 1 → row ≡ column row 0 ∷ []
one [] h = absurd (omega (arith, h))
one (a ∷ []) h = refl
one (a ∷ b ∷ rest) h = absurd (omega (arith, h))

three : (row : Row) → length row ≡ 3 → row ≡ column row 0 ∷ column row 1 ∷ column row 2 ∷ []
three [] h = absurd (omega (arith, h))
three (a ∷ []) h = absurd (omega (arith, h))
three (a ∷ b ∷ []) h = absurd (omega (arith, h))
three (a ∷ b ∷ c ∷ []) h = refl
three (a ∷ b ∷ c ∷ d ∷ rest) h = absurd (omega (arith, h))

pub one_is : (row : Row) (a : Value) → length row ≡ 1 → column row 0 ≡ a → row ≡ a ∷ []
one_is row a h p = one row h ∙ (λ i. p i ∷ [])

pub three_are : (row : Row) (a b c : Value) → length row ≡ 3 → column row 0 ≡ a → column row 1 ≡ b → column row 2 ≡ c → row ≡ a ∷ b ∷ c ∷ []
three_are row a b c h p q r = three row h ∙ (λ i. p i ∷ q i ∷ r i ∷ [])

six : (row : Row) → length row ≡ 6 → row ≡ column row 0 ∷ column row 1 ∷ column row 2 ∷ column row 3 ∷ column row 4 ∷ column row 5 ∷ []
six [] h = absurd (omega (arith, h))
six (a ∷ []) h = absurd (omega (arith, h))
six (a ∷ b ∷ []) h = absurd (omega (arith, h))
six (a ∷ b ∷ c ∷ []) h = absurd (omega (arith, h))
six (a ∷ b ∷ c ∷ d ∷ []) h = absurd (omega (arith, h))
six (a ∷ b ∷ c ∷ d ∷ e ∷ []) h = absurd (omega (arith, h))
six (a ∷ b ∷ c ∷ d ∷ e ∷ f ∷ []) h = refl
six (a ∷ b ∷ c ∷ d ∷ e ∷ f ∷ g ∷ rest) h = absurd (omega (arith, h))

nine : (row : Row) → length row ≡ 9 → row ≡ column row 0 ∷ column row 1 ∷ column row 2 ∷ column row 3 ∷ column row 4 ∷ column row 5 ∷ column row 6 ∷ column row 7 ∷ column row 8 ∷ []
nine [] h = absurd (omega (arith, h))
nine (a ∷ []) h = absurd (omega (arith, h))
nine (a ∷ b ∷ []) h = absurd (omega (arith, h))
nine (a ∷ b ∷ c ∷ []) h = absurd (omega (arith, h))
nine (a ∷ b ∷ c ∷ d ∷ []) h = absurd (omega (arith, h))
nine (a ∷ b ∷ c ∷ d ∷ e ∷ []) h = absurd (omega (arith, h))
nine (a ∷ b ∷ c ∷ d ∷ e ∷ f ∷ []) h = absurd (omega (arith, h))
nine (a ∷ b ∷ c ∷ d ∷ e ∷ f ∷ g ∷ []) h = absurd (omega (arith, h))
nine (a ∷ b ∷ c ∷ d ∷ e ∷ f ∷ g ∷ k ∷ []) h = absurd (omega (arith, h))
nine (a ∷ b ∷ c ∷ d ∷ e ∷ f ∷ g ∷ k ∷ l ∷ []) h = refl
nine (a ∷ b ∷ c ∷ d ∷ e ∷ f ∷ g ∷ k ∷ l ∷ m ∷ rest) h = absurd (omega (arith, h))

pub six_are : (row : Row) (a b c d e f : Value) → length row ≡ 6 → column row 0 ≡ a → column row 1 ≡ b → column row 2 ≡ c → column row 3 ≡ d → column row 4 ≡ e → column row 5 ≡ f → row ≡ a ∷ b ∷ c ∷ d ∷ e ∷ f ∷ []
six_are row a b c d e f h p q r s t u = six row h ∙ (λ i. p i ∷ q i ∷ r i ∷ s i ∷ t i ∷ u i ∷ [])

pub nine_are : (row : Row) (a b c d e f g k l : Value) → length row ≡ 9 → column row 0 ≡ a → column row 1 ≡ b → column row 2 ≡ c → column row 3 ≡ d → column row 4 ≡ e → column row 5 ≡ f → column row 6 ≡ g → column row 7 ≡ k → column row 8 ≡ l
    → row ≡ a ∷ b ∷ c ∷ d ∷ e ∷ f ∷ g ∷ k ∷ l ∷ []
nine_are row a b c d e f g k l h p q r s t u v w x = nine row h ∙ (λ i. p i ∷ q i ∷ r i ∷ s i ∷ t i ∷ u i ∷ v i ∷ w i ∷ x i ∷ [])

two : (row : Row) → length row ≡ 2 → row ≡ column row 0 ∷ column row 1 ∷ []
two [] h = absurd (omega (arith, h))
two (a ∷ []) h = absurd (omega (arith, h))
two (a ∷ b ∷ []) h = refl
two (a ∷ b ∷ z ∷ rest) h = absurd (omega (arith, h))

pub two_are : (row : Row) (a b : Value) → length row ≡ 2 → column row 0 ≡ a → column row 1 ≡ b → row ≡ a ∷ b ∷ []
two_are row a b h q0 q1 = two row h ∙ (λ i. q0 i ∷ q1 i ∷ [])

five : (row : Row) → length row ≡ 5 → row ≡ column row 0 ∷ column row 1 ∷ column row 2 ∷ column row 3 ∷ column row 4 ∷ []
five [] h = absurd (omega (arith, h))
five (a ∷ []) h = absurd (omega (arith, h))
five (a ∷ b ∷ []) h = absurd (omega (arith, h))
five (a ∷ b ∷ c ∷ []) h = absurd (omega (arith, h))
five (a ∷ b ∷ c ∷ d ∷ []) h = absurd (omega (arith, h))
five (a ∷ b ∷ c ∷ d ∷ e ∷ []) h = refl
five (a ∷ b ∷ c ∷ d ∷ e ∷ z ∷ rest) h = absurd (omega (arith, h))

pub five_are : (row : Row) (a b c d e : Value) → length row ≡ 5 → column row 0 ≡ a → column row 1 ≡ b → column row 2 ≡ c → column row 3 ≡ d → column row 4 ≡ e → row ≡ a ∷ b ∷ c ∷ d ∷ e ∷ []
five_are row a b c d e h q0 q1 q2 q3 q4 = five row h ∙ (λ i. q0 i ∷ q1 i ∷ q2 i ∷ q3 i ∷ q4 i ∷ [])

thirteen : (row : Row) → length row ≡ 13 → row ≡ column row 0 ∷ column row 1 ∷ column row 2 ∷ column row 3 ∷ column row 4 ∷ column row 5 ∷ column row 6 ∷ column row 7 ∷ column row 8 ∷ column row 9 ∷ column row 10 ∷ column row 11 ∷ column row 12 ∷ []
thirteen [] h = absurd (omega (arith, h))
thirteen (a ∷ []) h = absurd (omega (arith, h))
thirteen (a ∷ b ∷ []) h = absurd (omega (arith, h))
thirteen (a ∷ b ∷ c ∷ []) h = absurd (omega (arith, h))
thirteen (a ∷ b ∷ c ∷ d ∷ []) h = absurd (omega (arith, h))
thirteen (a ∷ b ∷ c ∷ d ∷ e ∷ []) h = absurd (omega (arith, h))
thirteen (a ∷ b ∷ c ∷ d ∷ e ∷ f ∷ []) h = absurd (omega (arith, h))
thirteen (a ∷ b ∷ c ∷ d ∷ e ∷ f ∷ g ∷ []) h = absurd (omega (arith, h))
thirteen (a ∷ b ∷ c ∷ d ∷ e ∷ f ∷ g ∷ k ∷ []) h = absurd (omega (arith, h))
thirteen (a ∷ b ∷ c ∷ d ∷ e ∷ f ∷ g ∷ k ∷ l ∷ []) h = absurd (omega (arith, h))
thirteen (a ∷ b ∷ c ∷ d ∷ e ∷ f ∷ g ∷ k ∷ l ∷ m ∷ []) h = absurd (omega (arith, h))
thirteen (a ∷ b ∷ c ∷ d ∷ e ∷ f ∷ g ∷ k ∷ l ∷ m ∷ n ∷ []) h = absurd (omega (arith, h))
thirteen (a ∷ b ∷ c ∷ d ∷ e ∷ f ∷ g ∷ k ∷ l ∷ m ∷ n ∷ o ∷ []) h = absurd (omega (arith, h))
thirteen (a ∷ b ∷ c ∷ d ∷ e ∷ f ∷ g ∷ k ∷ l ∷ m ∷ n ∷ o ∷ p ∷ []) h = refl
thirteen (a ∷ b ∷ c ∷ d ∷ e ∷ f ∷ g ∷ k ∷ l ∷ m ∷ n ∷ o ∷ p ∷ z ∷ rest) h = absurd (omega (arith, h))

pub thirteen_are : (row : Row) (a b c d e f g k l m n o p : Value) → length row ≡ 13 → column row 0 ≡ a → column row 1 ≡ b → column row 2 ≡ c → column row 3 ≡ d → column row 4 ≡ e → column row 5 ≡ f → column row 6 ≡ g → column row 7 ≡ k → column row 8 ≡ l → column row 9 ≡ m → column row 10 ≡ n → column row 11 ≡ o → column row 12 ≡ p → row ≡ a ∷ b ∷ c ∷ d ∷ e ∷ f ∷ g ∷ k ∷ l ∷ m ∷ n ∷ o ∷ p ∷ []
thirteen_are row a b c d e f g k l m n o p h q0 q1 q2 q3 q4 q5 q6 q7 q8 q9 q10 q11 q12 = thirteen row h ∙ (λ i. q0 i ∷ q1 i ∷ q2 i ∷ q3 i ∷ q4 i ∷ q5 i ∷ q6 i ∷ q7 i ∷ q8 i ∷ q9 i ∷ q10 i ∷ q11 i ∷ q12 i ∷ [])
