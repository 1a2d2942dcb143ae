use Rattle.document_tree.proofs.{ap, arith, counted_fits, counted_gain}
use Rattle.document_tree.proofs.{gone_ends, id_in, is_some, kept_led, led_left}
use Rattle.document_tree.proofs.{led_part, led_shows}
use Rattle.document_tree.proofs.{places_of}
use Rattle.document_tree.proofs.{pointer_in, quiet_sees, refl, rewritten, row_in, same_id_sees}
use Rattle.document_tree.proofs.{same_Some, set_moves, simple_still, still_small}
use Rattle.document_tree.proofs.{suc, sym}
use Rattle.document_tree.proofs.{◌∙◌}
use Rattle.document_tree.proofs.document.Document.lead.Goals as goal

pub replace_value-requires : goal.replace_value-requires
replace_value-requires g c =
    let was = rw (← c.self.view_is) at c.requires.old in
    quiet_sees _ c.self.invariant.simple.unborrowed c.pointer_to.result (g.met.S.AnyStorage.sound _)
    ∙ (ap is_some (same_id_sees _ c.pointer_to.result (pointer_in c.args.place) c.pointer_to.ensures) ∙ ap is_some was)

pub meet-requires-clause-fits : goal.meet-requires-clause-fits
meet-requires-clause-fits g c part at =
    let was = rw (← c.self.view_is) at c.requires.old in
    let moves = set_moves (g.met.S.AnyStorage.sound _) c.self.invariant.simple.plain c.pointer_to.result c.args.place c.pointer_to.ensures
    c.args.old c.args.new _ was c.replace_value.ensures in
    let more = counted_gain moves c.args.new (places_of (row_in c.self.inside.parts.slots c.args.new)) (λ e. c.if-old-new.true (same_Some _ _ e)) refl (c.self.invariant.counted c.args.new) in
    let small = still_small moves (c.self.invariant.small _ _ was) c.self.invariant.small in
    let simple = simple_still (g.met.S.AnyStorage.sound _) c.self.invariant.simple _ _ c.replace_value.ensures tt tt in
    let fits = counted_fits (g.met.S.AnyStorage.sound _) simple small (suc (places_of (row_in c.self.inside.parts.slots c.args.new))) c.args.new more in
    omega (arith, fits, ap places_of at)

pub leave-requires : goal.leave-requires
leave-requires g c =
    let was = rw (← c.self.view_is) at c.requires.old in
    let has = rw (← c.self.view_is) at c.requires.new in
    let to_old = led_part c.self.invariant (id_in c.args.place) c.args.old was in
    let to_new = led_part c.self.invariant (id_in has.0) c.args.new has.1 in
    record { there = ap is_some ((c.meet.ensures to_new.0 to_new.1).others c.args.old c.if-old-new.true ∙ to_old.1) }

pub invariant_of-self : goal.invariant_of-self
invariant_of-self g c =
    let was = rw (← c.self.view_is) at c.requires.old in
    let has = rw (← c.self.view_is) at c.requires.new in
    let to_old = led_part c.self.invariant (id_in c.args.place) c.args.old was in
    let to_new = led_part c.self.invariant (id_in has.0) c.args.new has.1 in
    let moves = set_moves (g.met.S.AnyStorage.sound _) c.self.invariant.simple.plain c.pointer_to.result c.args.place c.pointer_to.ensures
    c.args.old c.args.new _ was c.replace_value.ensures in
    let met_new = c.meet.ensures to_new.0 to_new.1 in
    let left_old = c.leave.ensures to_old.0 (met_new.others c.args.old c.if-old-new.true ∙ to_old.1) in
    kept_led c.self.invariant (simple_still (g.met.S.AnyStorage.sound _) c.self.invariant.simple _ _ c.replace_value.ensures tt tt) _ _ _ moves
    c.if-old-new.true (c.self.invariant.small _ _ was) to_new.0 to_old.0 to_new.1 to_old.1 (rewritten met_new) (rewritten left_old)

pub returns-then-old-new-clause-part : goal.returns-then-old-new-clause-part
returns-then-old-new-clause-part g c q same =
    let was = rw (← c.self.view_is) at c.requires.old in
    let moves = set_moves (g.met.S.AnyStorage.sound _) c.self.invariant.simple.plain c.pointer_to.result c.args.place c.pointer_to.ensures
    c.args.old c.args.new _ was c.replace_value.ensures in
    sym (same_id_sees _ (pointer_in c.args.place) (pointer_in q) same) ∙ moves.is

pub returns-then-old-new-clause-shown : goal.returns-then-old-new-clause-shown
returns-then-old-new-clause-shown g c =
    let was = rw (← c.self.view_is) at c.requires.old in
    let has = rw (← c.self.view_is) at c.requires.new in
    let to_old = led_part c.self.invariant (id_in c.args.place) c.args.old was in
    let to_new = led_part c.self.invariant (id_in has.0) c.args.new has.1 in
    let met_new = c.meet.ensures to_new.0 to_new.1 in
    let left_old = c.leave.ensures to_old.0 (met_new.others c.args.old c.if-old-new.true ∙ to_old.1) in
    rw (← c.self.view_is) (led_shows _ _ to_new.0 to_new.1 c.if-old-new.true (rewritten met_new) (rewritten left_old))

pub returns-then-old-new-clause-others : goal.returns-then-old-new-clause-others
returns-then-old-new-clause-others g c =
    let was = rw (← c.self.view_is) at c.requires.old in
    let has = rw (← c.self.view_is) at c.requires.new in
    let to_old = led_part c.self.invariant (id_in c.args.place) c.args.old was in
    let to_new = led_part c.self.invariant (id_in has.0) c.args.new has.1 in
    let moves = set_moves (g.met.S.AnyStorage.sound _) c.self.invariant.simple.plain c.pointer_to.result c.args.place c.pointer_to.ensures
    c.args.old c.args.new _ was c.replace_value.ensures in
    let met_new = c.meet.ensures to_new.0 to_new.1 in
    let left_old = c.leave.ensures to_old.0 (met_new.others c.args.old c.if-old-new.true ∙ to_old.1) in
    rw (← c.self.view_is) (led_left c.self.invariant c.args.place _ to_old.0 to_old.1 was _ _ to_new.0 to_new.1
    c.if-old-new.true (rewritten met_new) (rewritten left_old) moves)

pub returns-then-old-new-clause-ends : goal.returns-then-old-new-clause-ends
returns-then-old-new-clause-ends g c =
    let was = rw (← c.self.view_is) at c.requires.old in
    let has = rw (← c.self.view_is) at c.requires.new in
    let to_old = led_part c.self.invariant (id_in c.args.place) c.args.old was in
    let to_new = led_part c.self.invariant (id_in has.0) c.args.new has.1 in
    let met_new = c.meet.ensures to_new.0 to_new.1 in
    let left_old = c.leave.ensures to_old.0 (met_new.others c.args.old c.if-old-new.true ∙ to_old.1) in
    rw (← c.self.view_is) (λ other only. gone_ends c.self.invariant c.args.place _ to_old.0 to_old.1 was _ left_old.changed only)
