-- A writer that begins is noted.
use Rattle.store_cells.proofs.{alone_readable, arith, found, kept, lent_to, listed, lone, many, readable_within}
use Rattle.store_cells.proofs.{refl, value_there}
use Rattle.store_cells.proofs.entries.Entries.begin_write.Goals as goal

pub index_mut-requires : goal.index_mut-requires
index_mut-requires g c =
    let l = c.list_noted.ensures in let s = listed (kept c.self.view_is c.self.invariant) l.listed l.capacity in
    omega (
      arith,
      many s,
      readable_within c.args.self.now.slots _ _
          (alone_readable _ _ c.requires.free),
    )

pub lend-value-requires : goal.lend-value-requires
lend-value-requires g c =
    let l = c.list_noted.ensures in let s = listed (kept c.self.view_is c.self.invariant) l.listed l.capacity in
    let a = found s (readable_within _ _ _ (alone_readable _ _ c.requires.free)) c.index_mut.ensures.value in
    rw (lone a.1 l.nobody _ c.requires.free).1.2 refl

pub invariant_of-self : goal.invariant_of-self
invariant_of-self g c =
    let l = c.list_noted.ensures in let s = listed (kept c.self.view_is c.self.invariant) l.listed l.capacity in
    let a = found s (readable_within _ _ _ (alone_readable _ _ c.requires.free)) c.index_mut.ensures.value in
    rw c.note.ensures (lent_to a.1 l.nobody _ c.requires.free _ c.lend-value.ensures.lent c.args.writer).holds

pub returns-clause-value : goal.returns-clause-value
returns-clause-value g c =
    let l = c.list_noted.ensures in let s = listed (kept c.self.view_is c.self.invariant) l.listed l.capacity in
    let a = found s (readable_within _ _ _ (alone_readable _ _ c.requires.free)) c.index_mut.ensures.value in
    value_there a.1 l.nobody _ c.requires.free c.lend-value.ensures.value

pub returns-clause-after : goal.returns-clause-after
returns-clause-after g c =
    let l = c.list_noted.ensures in let s = listed (kept c.self.view_is c.self.invariant) l.listed l.capacity in
    let a = found s (readable_within _ _ _ (alone_readable _ _ c.requires.free)) c.index_mut.ensures.value in
    rw c.note.ensures (lent_to a.1 l.nobody _ c.requires.free _ c.lend-value.ensures.lent c.args.writer).view
