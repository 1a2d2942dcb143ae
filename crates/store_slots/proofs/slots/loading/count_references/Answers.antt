use Rattle.std.proofs.Common.{arith, length, ◌<◌}
use Rattle.store_parts.specs.CellNames.{name_of_cell}
use Rattle.store_slots.proofs.loading.{step_none, step_some}
use Rattle.store_slots.proofs.slots.loading.count_references.Goals as goal
use Rattle.store_slots.proofs.slots.loading.count_references.Goals.{in-Some, in_default}

pub count_up-requires-clause-few : goal.count_up-requires-clause-few
count_up-requires-clause-few g c =
    let i = c.loop-slot.invariant in
    let within : c.loop-slot.slot < length c.args.entries.now.slots = omega (arith, c.loop-slot-test.true, c.len-slot-end.ensures, i.same.long) in
    (step_some c.args.entries.now.slots c.loop-slot.entries.slots i.same c.loop-slot.slot c.generation-generation.result
    i.counted within c.generation-generation.ensures c.requires.targets (name_of_cell c.in-Some.target)
    (rw c.in-Some.is at c.target.ensures)).may.1

pub loop-slot-preserved : goal.loop-slot-preserved
loop-slot-preserved g c =
    let i = c.loop-slot.invariant in
    let within : c.loop-slot.slot < length c.args.entries.now.slots = omega (arith, c.loop-slot-test.true, c.len-slot-end.ensures, i.same.long) in
    elim c.match-target.branch [
      | in-Some w ↦
          let step = step_some c.args.entries.now.slots c.loop-slot.entries.slots i.same c.loop-slot.slot
          c.generation-generation.result i.counted within c.generation-generation.ensures c.requires.targets
          (name_of_cell w.in-Some.target) (rw w.in-Some.is at c.target.ensures) in
          rw (w.entries-is, w.count_up.ensures.slots, w.count_up.ensures.rooms)
          (record { same = step.after; counted = step.left_then; rooms = i.rooms })
      | in_default w ↦
          let none = step_none c.args.entries.now.slots c.loop-slot.entries.slots i.same c.loop-slot.slot
          c.generation-generation.result i.counted within c.generation-generation.ensures c.requires.targets
          (rw w.in_default.is at c.target.ensures) in
          rw w.entries-is (record { same = i.same; counted = none; rooms = i.rooms })
    ]
