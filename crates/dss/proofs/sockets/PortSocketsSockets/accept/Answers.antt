use Rattle.std.proofs.Common.{◌≡◌, suc, sym, subst, arith}
use Rattle.std.specs.Prelude.{ℕ, [], ◌∷◌, List, Some}
use Rattle.server_base.specs.History.{Accepted, AreBelow, Extends, HistoryEvent}
use Rattle.server_base.proofs.Histories.{below_accepted, extends_accepted}
use Rattle.dss.proofs.sockets.PortSocketsSockets.accept.Goals as goal

pub invariant_of-self-2 : goal.invariant_of-self-2
invariant_of-self-2 c =
    let self = c.args.self.now in
    let next : c.in-Some.next ≡ suc self.next_name = omega (arith, c.in-Some.ensures) in
    record {
      new_names = subst (λ (n : ℕ). AreBelow n c.note.new.self.events) (sym next)
          (subst (λ (v : List HistoryEvent). AreBelow (suc self.next_name) v) (sym c.note.ensures) (below_accepted self.next_name self.history.events self.new_names));
    }

pub returns : goal.returns
returns c =
    let self = c.args.self.now in
    subst (λ (v : List HistoryEvent). Extends (Some self.history.events) (Some v) (Accepted self.next_name ∷ [])) (sym c.note.ensures) (extends_accepted self.next_name self.history.events self.new_names)
