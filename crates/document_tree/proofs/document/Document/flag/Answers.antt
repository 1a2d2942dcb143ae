use Rattle.document_tree.proofs.Flagging.{flags_one}
use Rattle.document_tree.proofs.{ap, arith, cell_within, DocumentState, is_some, part_in, pointer_in, subst, sym, true, ◌≡◌}
use Rattle.document_tree.proofs.document.Document.flag.Goals as goal

pub index_mut-requires : goal.index_mut-requires
index_mut-requires g c =
    let count = rw (← c.self.view_is) at c.requires in
    omega (
      arith,
      cell_within (g.met.S.AnyStorage.sound _) c.self.invariant.simple (pointer_in c.args.place) (ap is_some (sym c.in-Some.ensures)),
      c.slot_of.ensures,
      count,
    )

pub returns : goal.returns
returns g c =
    let count = rw (← c.self.view_is) at c.requires in
    let within = cell_within (g.met.S.AnyStorage.sound _) c.self.invariant.simple (pointer_in c.args.place) (ap is_some (sym c.in-Some.ensures)) in
    rw c.slot_of.ensures (flags_one c.args.self.now c.args.place c.args.flags.now.items (omega (arith, within, count))
    (subst (λ (D : DocumentState _). is_some (part_in D c.args.place) ≡ true) c.self.view_is (ap is_some (sym c.in-Some.ensures))))
