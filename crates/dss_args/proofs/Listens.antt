-- The addresses to listen on, which are parsed one after the other.
use Rattle.std.proofs.Common.{◌≡◌, ◌∙◌, ◌++◌, ℕ, List, [], ◌∷◌, Option, Some, None, ap, append_assoc, append-nil, codes, inl, inr, refl, subst, sym}
use Rattle.std.specs.Net.Grammar.{IsSocketText}
use Rattle.std.specs.Net.Socket.{socket_ip}
use Rattle.std.specs.declared.net.socket_addr.SocketAddr.{SocketAddr}
use Rattle.std.proofs.NetLemmas.Theorems.{IsSocketText_unique}
use Rattle.clap.specs.Words.{Row, Text, all_of, first_of}
use Rattle.dss_args.specs.CommandArgs.{AreListens, HasAdmin, HasChoice, HasEndpoints, HasListen, HasNumberIn, IsAddress, IsListen, IsLoopback, ListensOn, parts_of}
use Rattle.dss_args.specs.declared.command_args.TheConstants.{MAX_PORT}
use Rattle.dss_args.proofs.Matches.{absent, number_present, same_number}

-- The texts that are left continue the addresses that were found.
abbrev pub GoesOn : Option ℕ → (all left : List Text) → List SocketAddr → Type 0
GoesOn port all left found =
    ((more : List SocketAddr) → AreListens port left more → AreListens port all (found ++ more))
    × ((whole : List SocketAddr) → AreListens port all whole → (more : List SocketAddr) × AreListens port left more)

-- At the start all texts are left.
pub goes_on_first : (port : Option ℕ) (all : List Text) → GoesOn port all all []
goes_on_first port all = (λ more are. are, λ whole are. (whole, are))

-- The addresses of more texts begin with one of the first text.
first_listen : (port : Option ℕ) (text : Text) (left : List Text) (whole : List SocketAddr) → AreListens port (text ∷ left) whole → (a : SocketAddr) × (more : List SocketAddr) × IsListen port text a × AreListens port left more
first_listen port text left [] are = absurd are
first_listen port text left (a ∷ more) are = (a, more, are.0, are.1)

-- One more text is parsed.
pub goes_on_next : (port : Option ℕ) (all : List Text) (text : Text) (left : List Text) (found : List SocketAddr) (a : SocketAddr) → GoesOn port all (text ∷ left) found → IsListen port text a → GoesOn port all left (found ++ a ∷ [])
goes_on_next port all text left found a goes is = (
  λ more are. subst (AreListens port all) (sym (append_assoc found (a ∷ []) more)) (goes.0 (a ∷ more) (is, are)),
  λ whole are. let first = first_listen port text left (goes.1 whole are).0 (goes.1 whole are).1 in (first.1, first.3),
)

-- At the end the addresses are those of all texts.
pub goes_on_last : (port : Option ℕ) (all : List Text) (found : List SocketAddr) → GoesOn port all [] found → AreListens port all found
goes_on_last port all found goes = subst (AreListens port all) (append-nil found) (goes.0 [] tt)

-- A text that is no address stops it.
pub goes_nowhere : (port : Option ℕ) (all : List Text) (text : Text) (left : List Text) (found : List SocketAddr) → GoesOn port all (text ∷ left) found → ((a : SocketAddr) → IsListen port text a → ⊥) → (whole : List SocketAddr) → AreListens port all whole → ⊥
goes_nowhere port all text left found goes none whole are =
    let first = first_listen port text left (goes.1 whole are).0 (goes.1 whole are).1 in none first.0 first.2

-- An optional argument has at most one number.
pub same_choice : (id : Text) (least greatest : ℕ) (rows : List Row) (m n : Option ℕ) → HasChoice id least greatest rows m → HasChoice id least greatest rows n → m ≡ n
same_choice id least greatest rows None None m_has n_has = refl
same_choice id least greatest rows None (Some n) m_has n_has = absurd (number_present id rows n n_has.0 m_has)
same_choice id least greatest rows (Some m) None m_has n_has = absurd (number_present id rows m m_has.0 n_has)
same_choice id least greatest rows (Some m) (Some n) m_has n_has = ap Some (same_number id rows m n m_has.0 n_has.0)

-- Addresses that are not those of the texts with the port are not listened on.
pub listens_nowhere : (rows : List Row) (port : Option ℕ) (texts : Option (List Text)) → HasChoice (codes "port") 1 MAX_PORT rows port → all_of (codes "listen") rows ≡ texts → ((all : List SocketAddr) → ListensOn port texts all → ⊥) → (all : List SocketAddr) → HasListen rows all → ⊥
listens_nowhere rows port texts choice there none all has =
    let ports : has.0 ≡ port = same_choice _ _ _ rows _ _ has.1 choice in
    none all (subst (λ (o : Option (List Text)). ListensOn port o all) there (subst (λ (p : Option ℕ). ListensOn p (all_of (codes "listen") rows) all) ports has.2))

-- An address of the text is the one that was parsed.
pub same_address : (text : Text) (a b : SocketAddr) → IsSocketText text a → IsAddress text b → b ≡ a
same_address text a b is other = IsSocketText_unique text b a other.0 is

-- An option that is present, and whose text is no port and no loopback address, is no admin port.
pub no_admin : (rows : List Row) (text : Text) → first_of (codes "admin-port") rows ≡ Some text → ((n : ℕ) → HasNumberIn (codes "admin-port") 1 MAX_PORT rows n → ⊥) → ((a : SocketAddr) → IsAddress text a → IsLoopback (socket_ip a) → ⊥) → (admin : Option SocketAddr) → HasAdmin rows admin → ⊥
no_admin rows text there number address None has = absent _ text has there
no_admin rows text there number address (Some a) has =
    elim has [
      | inl is ↦ number is.0 is.1
      | inr is ↦ let same : Some is.0 ≡ Some text = sym is.1 ∙ there in let texts : is.0 ≡ text = cc in address a (subst (λ (t : Text). IsAddress t a) texts is.2) is.3
    ]

-- A list with a part that is no address has no addresses of etcd.
pub no_endpoints : (rows : List Row) (text : Text) (parts : List Text) → first_of (codes "pool") rows ≡ Some text → parts ≡ parts_of text → ((all : List SocketAddr) → AreListens None parts all → ⊥) → (all : List SocketAddr) → HasEndpoints rows all → ⊥
no_endpoints rows text parts there split none all (t, is, are) =
    let same : Some t ≡ Some text = sym is ∙ there in
    let texts : t ≡ text = cc in
    none all (subst (λ (l : List Text). AreListens None l all) (ap parts_of texts ∙ sym split) are)
