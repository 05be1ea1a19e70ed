-- Lemmas: the digest and the link that a text is.
use Rattle.std.proofs.Common.{◌≡◌, ◌≢◌, ℕ, zero, suc, ◌+◌, ◌<◌, ◌^◌, List, [], ◌∷◌, ◌++◌, length, get_or, Bool, true, false, cond, Option, Some, None, Result, Ok, Err, refl, sym, ◌∙◌, ap, subst, arith}
use Rattle.std.proofs.lemmas.Bool.{cond-false, cond-true}
use Rattle.std.proofs.lemmas.Slice.Eq.{bytes_eq-Decides}
use Rattle.std.specs.Fmt.{decimal}
use Rattle.std.specs.List.{AllPass}
use Rattle.std.specs.Prelude.{IfOk, MatchOption}
use Rattle.std.specs.Str.{bytes_eq}
use Rattle.hex.specs.declared.error.FromHexError.{FromHexError}
use Rattle.hex.specs.Hex.{IsBytes, decode_of, decode_pairs, decode_sized, encode_lower, is_hex_digit, lower_digits}
use Rattle.hex.proofs.HexLemmas.{IsDigits-lower_digits, decode_of-ok, decode_pairs-encode_with, decode_pairs-ok, decode_sized-encode_lower, decode_sized-ok, decode_sized-twice}
use Rattle.pool_chain.specs.declared.link.Link.{Link}
use Rattle.pool_etcd.specs.Lines.{IsOneLine, Lacks, SplitsAt}
use Rattle.pool_etcd.specs.LinkText.{Fits, IsDigest, IsLinkText, IsNoLinkText, digest_by, digest_in, link_text}
use Rattle.pool_etcd.specs.LogValue.{IsFence, IsLink, IsNoLink, link_value}
use Rattle.pool_etcd.specs.Number.{number_of}
use Rattle.pool_etcd.proofs.Numbers.{decimal-number_of, number_of-decimal}
use Rattle.pool_etcd.proofs.Words.{decimal_lacks, first_unique, inside, lacks_both, no_digit_10, no_digit_32, one_number}

-- ---- digests

same_text : (bytes text : List ℕ) (d : List ℕ) (b : Bool) → bytes_eq (encode_lower bytes) text ≡ b → cond b (Some bytes) None ≡ Some d → (text ≡ encode_lower bytes) × (bytes ≡ d)
same_text bytes text d true is e = (sym ((bytes_eq-Decides (encode_lower bytes) text).0 is), cc)
same_text bytes text d false is e = let h : ⊥ = cc in absurd h

by_read : (read : Result (List ℕ) FromHexError) (text d : List ℕ) → digest_by read text ≡ Some d → (read ≡ Ok d) × (text ≡ encode_lower d)
by_read (Ok bytes) text d e =
    let both = same_text bytes text d _ refl e in
    (ap (λ (b : List ℕ). Ok b) both.1, both.0 ∙ ap (λ (b : List ℕ). encode_lower b) both.1)
by_read (Err fault) text d e = let h : ⊥ = cc in absurd h

-- A text that is read as a digest is the text of that one.
pub text-digest_in : (text d : List ℕ) → digest_in text ≡ Some d → IsDigest d × (text ≡ encode_lower d)
unfolding digest_in
text-digest_in text d e =
    let both = by_read (decode_sized text 32) text d e in
    let long : length text ≡ 64 = decode_sized-ok text 32 d both.0 in
    let whole = decode_of-ok text d (sym (decode_sized-twice text 32 long) ∙ both.0) in
    ((omega (arith, long, whole.2), whole.3), both.1)

-- The text of a digest is read as that one.
pub digest_in-text : (text d : List ℕ) → IsDigest d → text ≡ encode_lower d → digest_in text ≡ Some d
unfolding digest_in
digest_in-text text d is e =
    let read : decode_sized text 32 ≡ Ok d = ap (λ (t : List ℕ). decode_sized t 32) e ∙ decode_sized-encode_lower d 32 is.0 is.1 in
    let same : bytes_eq (encode_lower d) text ≡ true = (bytes_eq-Decides (encode_lower d) text).1 (sym e) in
    ap (λ (r : Result (List ℕ) FromHexError). digest_by r text) read ∙ cond-true (bytes_eq (encode_lower d) text) (Some d) None same

-- How a text is read as a digest.
pub digest_none : (text : List ℕ) (fault : FromHexError) → decode_sized text 32 ≡ Err fault → None ≡ digest_in text
unfolding digest_in
digest_none text fault read = sym (ap (λ (r : Result (List ℕ) FromHexError). digest_by r text) read)

pub digest_some : (text d : List ℕ) → decode_sized text 32 ≡ Ok d → bytes_eq (encode_lower d) text ≡ true → Some d ≡ digest_in text
unfolding digest_in
digest_some text d read same =
    sym (ap (λ (r : Result (List ℕ) FromHexError). digest_by r text) read ∙ cond-true (bytes_eq (encode_lower d) text) (Some d) None same)

pub digest_other : (text d : List ℕ) → decode_sized text 32 ≡ Ok d → bytes_eq (encode_lower d) text ≡ false → None ≡ digest_in text
unfolding digest_in
digest_other text d read same =
    sym (ap (λ (r : Result (List ℕ) FromHexError). digest_by r text) read ∙ cond-false (bytes_eq (encode_lower d) text) (Some d) None same)

-- The text of a digest lacks a byte that is no digit.
digits_lack : (byte : ℕ) (ds : List ℕ) → is_hex_digit byte ≡ false → AllPass is_hex_digit ds → Lacks byte ds
digits_lack byte ds other all k low is =
    let h : is_hex_digit byte ≡ true = ap is_hex_digit (sym is) ∙ all k 0 low in
    let g : ⊥ = cc in g

pub digest_lacks : (byte : ℕ) (d : List ℕ) → is_hex_digit byte ≡ false → IsDigest d → Lacks byte (encode_lower d)
digest_lacks byte d other is =
    digits_lack byte (encode_lower d) other (decode_pairs-ok 0 (encode_lower d) d (decode_pairs-encode_with lower_digits IsDigits-lower_digits 0 d is.1)).0

-- ---- links

pub link_one_line : (link : Link) → Fits link → IsOneLine (link_text link)
link_one_line link fits =
    lacks_both 10 32 (decimal link.count) (encode_lower link.digest) (λ e. absurd (omega arith)) (decimal_lacks 10 link.count no_digit_10 fits.count) (digest_lacks 10 link.digest refl fits.digest)

-- Bytes without a space are no link.
pub no_link_in_word : (text : List ℕ) → Lacks 32 text → IsNoLinkText text
no_link_in_word text h link l = inside 32 (decimal link.count) (encode_lower link.digest) (subst (λ (t : List ℕ). Lacks 32 t) l.1 h)

-- What stands before and behind the first space of a link.
both_parts : (text front rest : List ℕ) (link : Link) → SplitsAt 32 text front rest → IsLinkText text link → (front ≡ decimal link.count) × (rest ≡ encode_lower link.digest)
both_parts text front rest link at l =
    first_unique 32 front rest (decimal link.count) (encode_lower link.digest) at.first (decimal_lacks 32 link.count no_digit_32 l.0.count) (sym at.split ∙ l.1)

pub no_link_behind : (text front rest : List ℕ) → SplitsAt 32 text front rest → number_of front ≡ None → IsNoLinkText text
no_link_behind text front rest at none link l =
    let some : number_of front ≡ Some link.count = number_of-decimal front link.count l.0.count (both_parts text front rest link at l).0 in
    let h : ⊥ = cc in h

pub no_link_before : (text front rest : List ℕ) → SplitsAt 32 text front rest → digest_in rest ≡ None → IsNoLinkText text
no_link_before text front rest at none link l =
    let some : digest_in rest ≡ Some link.digest = digest_in-text rest link.digest l.0.digest (both_parts text front rest link at l).1 in
    let h : ⊥ = cc in h

pub link_here : (text front rest : List ℕ) (count : ℕ) (digest : List ℕ) → SplitsAt 32 text front rest → number_of front ≡ Some count → digest_in rest ≡ Some digest
    → IsLinkText text (record { count = count; digest = digest })
link_here text front rest count digest at before behind =
    let n = decimal-number_of front count before in
    let d = text-digest_in rest digest behind in
    (record { count = n.0; digest = d.0 }, at.split ∙ ap (λ (a : List ℕ). a ++ 32 ∷ rest) n.1 ∙ ap (λ (b : List ℕ). decimal count ++ 32 ∷ b) d.1)

-- A text is one link at most.
pub one_link : (text : List ℕ) (a b : Link) → IsLinkText text a → IsLinkText text b → a ≡ b
one_link text a b p q =
    let at : SplitsAt 32 text (decimal a.count) (encode_lower a.digest) = record { split = p.1; first = decimal_lacks 32 a.count no_digit_32 p.0.count } in
    let parts = both_parts text (decimal a.count) (encode_lower a.digest) b at q in
    let counts : a.count ≡ b.count = one_number (decimal a.count) a.count b.count p.0.count q.0.count refl parts.0 in
    let first = digest_in-text (encode_lower a.digest) a.digest p.0.digest refl in
    let second = digest_in-text (encode_lower a.digest) b.digest q.0.digest parts.1 in
    let digests : a.digest ≡ b.digest = let e : Some a.digest ≡ Some b.digest = sym first ∙ second in cc in
    ap (λ (n : ℕ). record a { count = n }) counts ∙ ap (λ (d : List ℕ). record b { digest = d }) digests

-- ---- values that are links

pub value_one_line : (number : ℕ) (link : Link) → number < 2 ^ 64 → Fits link → IsOneLine (link_value number link)
value_one_line number link low fits =
    lacks_both 10 32 (decimal number) (link_text link) (λ e. absurd (omega arith)) (decimal_lacks 10 number no_digit_10 low) (link_one_line link fits)

both_halves : (value front rest : List ℕ) (number : ℕ) (link : Link) → SplitsAt 32 value front rest → IsLink value number link → (front ≡ decimal number) × (rest ≡ link_text link)
both_halves value front rest number link at l =
    first_unique 32 front rest (decimal number) (link_text link) at.first (decimal_lacks 32 number no_digit_32 l.0) (sym at.split ∙ l.2)

pub no_value_in_word : (value : List ℕ) → Lacks 32 value → IsNoLink value
no_value_in_word value h number link l = inside 32 (decimal number) (link_text link) (subst (λ (v : List ℕ). Lacks 32 v) l.2 h)

pub no_value_behind : (value front rest : List ℕ) → SplitsAt 32 value front rest → number_of front ≡ None → IsNoLink value
no_value_behind value front rest at none number link l =
    let some : number_of front ≡ Some number = number_of-decimal front number l.0 (both_halves value front rest number link at l).0 in
    let h : ⊥ = cc in h

pub no_value_before : (value front rest : List ℕ) → SplitsAt 32 value front rest → IsNoLinkText rest → IsNoLink value
no_value_before value front rest at none number link l = none link (l.1, (both_halves value front rest number link at l).1)

pub value_here : (value front rest : List ℕ) (number : ℕ) (link : Link) → SplitsAt 32 value front rest → number_of front ≡ Some number → IsLinkText rest link → IsLink value number link
value_here value front rest number link at before behind =
    let n = decimal-number_of front number before in
    (n.0, behind.0, at.split ∙ ap (λ (a : List ℕ). a ++ 32 ∷ rest) n.1 ∙ ap (λ (b : List ℕ). decimal number ++ 32 ∷ b) behind.1)

-- A value is one link at most.
pub one_value_link : (value : List ℕ) (m n : ℕ) (a b : Link) → IsLink value m a → IsLink value n b → (m ≡ n) × (a ≡ b)
one_value_link value m n a b p q =
    let at : SplitsAt 32 value (decimal m) (link_text a) = record { split = p.2; first = decimal_lacks 32 m no_digit_32 p.0 } in
    let halves = both_halves value (decimal m) (link_text a) n b at q in
    (one_number (decimal m) m n p.0 q.0 refl halves.0, one_link (link_text a) a b (p.1, refl) (q.1, halves.1))

-- A fence is no link.
pub fence_is_no_link : (value : List ℕ) (agreed : ℕ) → IsFence value agreed → IsNoLink value
fence_is_no_link value agreed f =
    let at : SplitsAt 32 value (decimal f.0) (decimal agreed) = record { split = f.3; first = decimal_lacks 32 f.0 no_digit_32 f.1 } in
    no_value_before value (decimal f.0) (decimal agreed) at (no_link_in_word (decimal agreed) (decimal_lacks 32 agreed no_digit_32 f.2))
