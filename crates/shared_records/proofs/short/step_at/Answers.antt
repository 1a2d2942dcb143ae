use Rattle.shared_records.proofs.{own_at, stands_by_itself}
use Rattle.shared_records.specs.Decoding.{tables}
use Rattle.std.proofs.Common.{arith, sym, ◌∙◌}
use Rattle.shared_records.proofs.short.step_at.Goals as goal

pub item_step-requires : goal.item_step-requires
item_step-requires c =
    own_at c.args.far.now _ _ (grind (arith, c.requires.within, c.in-Far.is)) c.requires.own

pub returns-in_default : goal.returns-in_default
returns-in_default c = c.item_step-in_default.ensures ∙ sym (stands_by_itself c.args.number
    (tables c.args.locations.now c.args.long.now c.args.far.now) c.args.reached c.args.short
    c.in_default.not-Long c.in_default.not-Far)
