-- Lemmas: entries and fences by their first line and their first word.
use Rattle.std.proofs.Common.{◌≡◌, ℕ, ◌<◌, ◌^◌, List, ◌∷◌, ◌++◌, Option, Some, None, Result, Ok, Err, refl, sym, ◌∙◌, ap, subst, arith}
use Rattle.std.specs.Fmt.{decimal}
use Rattle.std.specs.Prelude.{IfOk, MatchOption}
use Rattle.pool_chain.specs.declared.link.Link.{Link}
use Rattle.pool_etcd.specs.Lines.{BeginsWith, IsOneLine, Lacks, SplitsAt}
use Rattle.pool_etcd.specs.LogValue.{IsEntry, IsFence, IsLink, IsNoEntry, IsNoFence, IsNoLink, link_value}
use Rattle.pool_etcd.specs.Number.{number_of}
use Rattle.pool_etcd.proofs.LinkTexts.{one_value_link, value_one_line}
use Rattle.pool_etcd.proofs.Numbers.{decimal-number_of, number_of-decimal}
use Rattle.pool_etcd.proofs.Words.{decimal_one_line, decimal_one_word, first_unique, inside, lacks_both, one_number}

-- One line is no entry.
pub no_entry_in_line : (value : List ℕ) → IsOneLine value → IsNoEntry value
no_entry_in_line value h number link bytes e = inside 10 (link_value number link) bytes (subst (λ (v : List ℕ). IsOneLine v) e.2 h)

-- What stands before and behind the first line feed of an entry.
first_line : (value line rest : List ℕ) (number : ℕ) (link : Link) (bytes : List ℕ) → BeginsWith value line rest → IsEntry value number link bytes
    → (line ≡ link_value number link) × (rest ≡ bytes)
first_line value line rest number link bytes begins e =
    first_unique 10 line rest (link_value number link) bytes begins.one_line (value_one_line number link e.0 e.1) (sym begins.split ∙ e.2)

-- A value whose first line is no link is no entry.
pub no_entry_behind : (value line rest : List ℕ) → BeginsWith value line rest → IsNoLink line → IsNoEntry value
no_entry_behind value line rest begins none number link bytes e = none number link (e.0, e.1, (first_line value line rest number link bytes begins e).0)

-- A value whose first line is a link is an entry.
pub entry_here : (value line rest : List ℕ) (number : ℕ) (link : Link) → BeginsWith value line rest → IsLink line number link → IsEntry value number link rest
entry_here value line rest number link begins l = (l.0, l.1, begins.split ∙ ap (λ (front : List ℕ). front ++ 10 ∷ rest) l.2)

-- Bytes without a space are no fence.
pub no_fence_in_word : (value : List ℕ) → Lacks 32 value → IsNoFence value
no_fence_in_word value h agreed f = inside 32 (decimal f.0) (decimal agreed) (subst (λ (v : List ℕ). Lacks 32 v) f.3 h)

-- What stands before and behind the first space of a fence.
both_numbers : (value front rest : List ℕ) (agreed : ℕ) → SplitsAt 32 value front rest → (f : IsFence value agreed) → (front ≡ decimal f.0) × (rest ≡ decimal agreed)
both_numbers value front rest agreed at f =
    first_unique 32 front rest (decimal f.0) (decimal agreed) at.first (decimal_one_word f.0 f.1) (sym at.split ∙ f.3)

-- A value whose first word is no number is no fence.
pub no_fence_behind : (value front rest : List ℕ) → SplitsAt 32 value front rest → number_of front ≡ None → IsNoFence value
no_fence_behind value front rest at none agreed f =
    let some : number_of front ≡ Some f.0 = number_of-decimal front f.0 f.1 (both_numbers value front rest agreed at f).0 in
    let h : ⊥ = cc in h

-- A value with no number behind its first word is no fence.
pub no_fence_before : (value front rest : List ℕ) → SplitsAt 32 value front rest → number_of rest ≡ None → IsNoFence value
no_fence_before value front rest at none agreed f =
    let some : number_of rest ≡ Some agreed = number_of-decimal rest agreed f.2 (both_numbers value front rest agreed at f).1 in
    let h : ⊥ = cc in h

-- A value of two numbers is a fence.
pub fence_here : (value front rest : List ℕ) (number agreed : ℕ) → SplitsAt 32 value front rest → number_of front ≡ Some number → number_of rest ≡ Some agreed → IsFence value agreed
fence_here value front rest number agreed at before behind =
    let m = decimal-number_of front number before in
    let n = decimal-number_of rest agreed behind in
    (number, m.0, n.0, at.split ∙ ap (λ (a : List ℕ). a ++ 32 ∷ rest) m.1 ∙ ap (λ (b : List ℕ). decimal number ++ 32 ∷ b) n.1)

-- What the number behind the first word tells, if there is one before it.
fence_by : (value front rest : List ℕ) (number : ℕ) (agreed : Option ℕ) → SplitsAt 32 value front rest → number_of front ≡ Some number → agreed ≡ number_of rest → MatchOption agreed (IsNoFence value) (λ a. IsFence value a)
fence_by value front rest number None at before behind = no_fence_before value front rest at (sym behind)
fence_by value front rest number (Some a) at before behind = fence_here value front rest number a at before (sym behind)

pub fence_in : {E : Type 0} (value front rest : List ℕ) (number : ℕ) (read : Result (Option ℕ) E) → SplitsAt 32 value front rest → number_of front ≡ Some number
    → IfOk read (λ agreed. agreed ≡ number_of rest) → IfOk read (λ agreed. MatchOption agreed (IsNoFence value) (λ a. IsFence value a))
fence_in value front rest number (Ok agreed) at before behind = fence_by value front rest number agreed at before behind
fence_in value front rest number (Err e) at before behind = behind

-- A fence is one line, so it is no entry.
pub fence_is_no_entry : (value : List ℕ) (agreed : ℕ) → IsFence value agreed → IsNoEntry value
fence_is_no_entry value agreed f =
    no_entry_in_line value (subst (λ (v : List ℕ). IsOneLine v) (sym f.3)
    (lacks_both 10 32 (decimal f.0) (decimal agreed) (λ e. absurd (omega arith)) (decimal_one_line f.0 f.1) (decimal_one_line agreed f.2)))

-- A link is one line, so it is no entry.
pub link_is_no_entry : (value : List ℕ) (number : ℕ) (link : Link) → IsLink value number link → IsNoEntry value
link_is_no_entry value number link l =
    no_entry_in_line value (subst (λ (v : List ℕ). IsOneLine v) (sym l.2) (value_one_line number link l.0 l.1))

-- A value is one entry at most.
pub one_entry : (value : List ℕ) (m n : ℕ) (a b : Link) (x y : List ℕ) → IsEntry value m a x → IsEntry value n b y → (m ≡ n) × (a ≡ b) × (x ≡ y)
one_entry value m n a b x y e f =
    let same = first_unique 10 (link_value m a) x (link_value n b) y (value_one_line m a e.0 e.1) (value_one_line n b f.0 f.1) (sym e.2 ∙ f.2) in
    let links = one_value_link (link_value m a) m n a b (e.0, e.1, refl) (f.0, f.1, same.0) in
    (links.0, links.1, same.1)

-- A value is one fence at most.
pub one_fence : (value : List ℕ) (a b : ℕ) → IsFence value a → IsFence value b → a ≡ b
one_fence value a b e f =
    let at : SplitsAt 32 value (decimal e.0) (decimal a) = record { split = e.3; first = decimal_one_word e.0 e.1 } in
    one_number (decimal a) a b e.2 f.2 refl (both_numbers value (decimal e.0) (decimal a) b at f).1
