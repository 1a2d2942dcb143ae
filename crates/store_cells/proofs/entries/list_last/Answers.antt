-- The noted borrow is listed.
use Rattle.store_cells.proofs.{ap, data_in, listed_opened, listed_there, noted_index, noted_is, noted_placed}
use Rattle.store_cells.proofs.{opens_one, refl, room_left}
use Rattle.store_cells.proofs.entries.list_last.Goals as goal

pub open-requires-clause-room : goal.open-requires-clause-room
open-requires-clause-room g c =
    let a = noted_is c.requires.fits c.requires.noted c.index_mut.ensures.value in
    room_left a.1 (rw c.in-Data.is refl)

pub open-requires-in-Shared-clause-room : goal.open-requires-in-Shared-clause-room
open-requires-in-Shared-clause-room g c =
    let a = noted_is c.requires.fits c.requires.noted c.index_mut.ensures.value in
    room_left a.1 (rw c.in-Shared.is refl)

pub open-requires-in-Lent-clause-room : goal.open-requires-in-Lent-clause-room
open-requires-in-Lent-clause-room g c =
    let a = noted_is c.requires.fits c.requires.noted c.index_mut.ensures.value in
    let none = noted_index a.1 a.0 (ap data_in c.in-Lent.is) in
    room_left a.1 (rw c.in-Lent.is none)

pub returns-in-Data-clause-listed : goal.returns-in-Data-clause-listed
returns-in-Data-clause-listed g c =
    let a = noted_is c.requires.fits c.requires.noted c.index_mut.ensures.value in
    let o = c.open.ensures in
    listed_opened a.1 a.0 (rw c.in-Data.is refl) (opens_one o.vacant o.lists o.free) o.rooms _
    (rw (c.list.ensures, c.in-Data.is) refl) (λ d. rw (c.list.ensures, c.in-Data.is) refl)

pub returns-in-Shared-clause-listed : goal.returns-in-Shared-clause-listed
returns-in-Shared-clause-listed g c =
    let a = noted_is c.requires.fits c.requires.noted c.index_mut.ensures.value in
    let o = c.open-in-Shared.ensures in
    listed_opened a.1 a.0 (rw c.in-Shared.is refl) (opens_one o.vacant o.lists o.free) o.rooms _
    (rw (c.list-in-Shared.ensures, c.in-Shared.is) refl) (λ d. rw (c.list-in-Shared.ensures, c.in-Shared.is) refl)

pub returns-in-Lent-clause-listed : goal.returns-in-Lent-clause-listed
returns-in-Lent-clause-listed g c =
    let a = noted_is c.requires.fits c.requires.noted c.index_mut.ensures.value in
    let o = c.open-in-Lent.ensures in
    listed_opened a.1 a.0 (rw c.in-Lent.is (noted_index a.1 a.0 (ap data_in c.in-Lent.is)))
    (opens_one o.vacant o.lists o.free) o.rooms _ refl (λ d. rw c.in-Lent.is refl)

pub returns-in_default-clause-listed : goal.returns-in_default-clause-listed
returns-in_default-clause-listed g c =
    let a = noted_is c.requires.fits c.requires.noted c.index_mut.ensures.value in
    let no = c.in_default in
    listed_there a.1 a.0 (noted_placed a.1 a.0 no.not-Data no.not-Shared no.not-Lent)
