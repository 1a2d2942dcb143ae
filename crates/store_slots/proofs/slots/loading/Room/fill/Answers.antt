use Rattle.std.proofs.Common.{arith, ap, length, ◌≡◌, ◌∙◌, ◌<◌}
use Rattle.std.proofs.Common.{map as list_map}
use Rattle.std.proofs.lemmas.List.{length-map}
use Rattle.store_slots.specs.SlotsState.{state_of, with_records}
use Rattle.store_slots.specs.ImageSlots.{slot_told}
use Rattle.std.specs.FinMap as map
use Rattle.store_slots.proofs.loading.{peak_is, retired_few, small_targets, told_table, uncounted_told, within_told}
use Rattle.store_slots.proofs.telling.{tells}
use Rattle.store_slots.proofs.slots.loading.Room.fill.Goals as goal

pub push_all-retired-requires-clause-small : goal.push_all-retired-requires-clause-small
push_all-retired-requires-clause-small g c =
    let few : length c.args.image.slots.items < 4294967295 =
    omega (arith, c.self.view_is, c.requires.room, c.self.invariant.3) in
    small_targets c.args.image.slots.items few c.requires.whole.targets

pub count_references-requires-clause-none : goal.count_references-requires-clause-none
count_references-requires-clause-none g c =
    rw c.push_all-retired.ensures.slots (uncounted_told c.args.image.slots.items)

pub count_references-requires-clause-targets : goal.count_references-requires-clause-targets
count_references-requires-clause-targets g c =
    rw c.push_all-retired.ensures.slots
    (within_told c.args.image.slots.items c.requires.whole.targets)

pub invariant_of-result : goal.invariant_of-result
invariant_of-result g c =
    let i = c.args.image in
    let put = c.push_all-retired.ensures in
    let count = c.count_references.ensures in
    let pooled = rw put.slots at put.pooled in
    let many : length (list_map slot_told i.slots.items) ≡ length i.slots.items =
    length-map i.slots.items slot_told in
    let long : length c.count_references.new.entries.slots ≡ length (list_map slot_told i.slots.items) =
    count.slots.long ∙ ap length put.slots in
    let table = told_table i.slots.items _ c.push_all-retired.result i.start i.peak
    (g.P.SlotPool.rooms c.push_all-retired.new.pool) pooled c.requires.whole.enough c.requires.whole.few
    (omega (arith, many, put.pool, c.requires.room, c.self.view_is)) c.requires.whole.begun in (
      rw (long, c.at.ensures) (count.slots.table (rw put.slots table)),
      omega (arith, put.pool, count.rooms, put.rooms, c.self.invariant.2),
      count.counted,
      rw (long, c.at.ensures) (retired_few i.slots.items _ c.push_all-retired.result i.start i.peak 0
          pooled c.requires.whole.enough c.requires.whole.few),
    )

pub returns : goal.returns
returns g c =
    let i = c.args.image in
    let put = c.push_all-retired.ensures in
    let count = c.count_references.ensures in
    let pooled = rw put.slots at put.pooled in
    let long : length c.count_references.new.entries.slots ≡ length (list_map slot_told i.slots.items) =
    count.slots.long ∙ ap length put.slots in
    let peak = peak_is i.slots.items _ c.push_all-retired.result i.start i.peak 0 pooled
    c.requires.whole.enough c.requires.whole.few in
    rw (long, c.at.ensures, peak) (
    ap (λ S. with_records S i.number map.empty i.next)
    (count.slots.state i.start i.peak ∙ ap (λ xs. state_of i.start i.peak xs) put.slots) ∙ tells i)
