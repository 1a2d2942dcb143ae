use Rattle.store_slots.proofs.{changed_state, either, err_from, held_in, invariant_changed, ok_then, one_read}
use Rattle.store_slots.proofs.{readable, refl, unrefused}
use Rattle.std.proofs.Common.{rules}
use Rattle.store_slots.proofs.slots.Slots.begin_read.Goals as goal

pub begin_read-requires : goal.begin_read-requires
begin_read-requires g c =
    let f = held_in c.self.view_is c.requires.there in record {
      there = rw f.there (refl, readable f.content (rw f.seen at c.requires.free));
      ascends = rw f.there (rw f.seen at c.requires.ascends);
      alone = λ alone. rw f.there (refl, unrefused f.content (rw f.seen at (c.requires.alone alone)));
    }

pub invariant_of-self : goal.invariant_of-self
invariant_of-self g c =
    let f = held_in c.self.view_is c.requires.there in
    let read = c.begin_read.ensures in
    either c.begin_read.result read.ok read.err
    (λ e. invariant_changed _ f.held (one_read c.args.borrow) c.self.invariant e read.rooms)
    (λ e. rw e c.self.invariant)

pub returns : goal.returns
returns g c =
    let read = c.begin_read.ensures in let f = held_in c.self.view_is c.requires.there in record {
      ok = ok_then c.begin_read.result
          (λ e. rw f.seen (changed_state _ c.self.view_is f (one_read c.args.borrow) e)) read.ok;
      err = search rules;
      beside = err_from c.begin_read.result (λ h. rw f.seen (rw f.there at h)) read.beside;
    }
