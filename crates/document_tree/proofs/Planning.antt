-- The places of a store that are listed once each, and the parts that come to keys of their own.
use Rattle.document_tree.proofs.Keeping.{at_id, counted_alike, counted_more, led_part, Moves, one_or_two, row_in, set_moves_at, told_own, within_list}
use Rattle.document_tree.proofs.Keeping.Common.{ap, arith, Bool, by_number, by_option, cases_lt, false, GenerationalBoxId, GenerationalPointer}
use Rattle.document_tree.proofs.Keeping.Common.{get_or-set_other, get_or-set_same, id_in, inl, inr, IsAt, AreExactly, IsDocumentKept, IsSimple, IsSound}
use Rattle.document_tree.proofs.Keeping.Common.{IsTold, key_cases, key_in, last_name, Leads, length, List, Location, Meets, name_in, name_of, None, none-some, nowhere, Old, SetValue, Slab, Updates}
use Rattle.document_tree.proofs.Keeping.Common.{one_id, Option, Part, part_at, Place, places_of, pointer_in, refl, same_id_sees, seen_store, told_at, same_Some, seen_cell}
use Rattle.document_tree.proofs.Keeping.Common.{shown_by, shown_of, site_told, slice_get, slice_get_within, slice_index_or, slots, Some, State}
use Rattle.document_tree.proofs.Keeping.Common.{subst, suc, sym, TellsLocation, true, true≢false, value_in, zero, is_some, ℕ}
use Rattle.document_tree.proofs.Keeping.Common.{[], ⊎_elim, ◌++◌, ◌+◌, ◌<◌, ◌∙◌, ◌∷◌, ◌≡◌, ◌≢◌, ◌≤◌, ◌⊎◌}
use Rattle.document_tree.specs.Building.{HaveOwnPlaces, AreSpotsCounted, HaveParts, ArePlacesNoted, ArePut, AreSited, AreSpots, AreUsed, IsSpotAmong, IsAtKey, IsPartPut}
use Rattle.live_cells.specs.declared.cells.CellFault.TheVariants.{OutOfMemory}
use Rattle.document_tree.specs.declared.parts.PartsFault.{PartsFault}
use Rattle.document_tree.specs.declared.parts.PartsFault.TheVariants.{Cell, Unused}
use Rattle.document_tree.specs.Taking.{AreParts, IsLaid, IsPartsFault, part_row, row_told, shown_row, shown_told}
use Rattle.document_tree.specs.declared.building.Spot.{Spot}
use Rattle.document_tree.specs.declared.parts.DocumentPart.{DocumentPart}
use Rattle.generational_core.proofs.machine.{slot_made}
use Rattle.generational_laws.proofs.callers.{get_pushed, get_take, take_within}
use Rattle.handles.specs.Sites.{SiteState, told_in}
use Rattle.std.proofs.lemmas.List.{take_all}
use Rattle.location_list.specs.Locations.{is_among, with_location}
use Rattle.slab.specs.Slab.{entries_from}
use Rattle.std.proofs.lemmas.Option.{slice_get-get_or}
use Rattle.std.specs.Prelude.{if◌then◌else◌, IfNone, nat_eq, slice_set, take, ◌↔◌}

-- ==== lists

pub get_last : {X : Type 0} (xs : List X) (x : X) → slice_get (xs ++ x ∷ []) (length xs) ≡ Some x
get_last [] x = refl
get_last (y ∷ xs) x = get_last xs x

pub get_before : {X : Type 0} (xs : List X) (x : X) (k : ℕ) (y : X) → slice_get xs k ≡ Some y
    → slice_get (xs ++ x ∷ []) k ≡ Some y
get_before [] x k y is = cc
get_before (z ∷ xs) x zero y is = is
get_before (z ∷ xs) x (suc k) y is = get_before xs x k y is

pub index_last : {X : Type 0} (xs : List X) (x d : X) (n : ℕ) → length xs ≡ n → slice_index_or (xs ++ x ∷ []) n d ≡ x
index_last [] x d zero is = refl
index_last [] x d (suc n) is = absurd (omega (arith, is))
index_last (y ∷ xs) x d zero is = absurd (omega (arith, is))
index_last (y ∷ xs) x d (suc n) is = index_last xs x d n (omega (arith, is))

pub index_before : {X : Type 0} (xs : List X) (x d : X) (k : ℕ) → k < length xs
    → slice_index_or (xs ++ x ∷ []) k d ≡ slice_index_or xs k d
index_before [] x d k lt = absurd (omega (arith, lt))
index_before (y ∷ xs) x d zero lt = refl
index_before (y ∷ xs) x d (suc k) lt = index_before xs x d k (omega (arith, lt))

pub index_past : {X : Type 0} (xs : List X) (d : X) (k : ℕ) → length xs ≤ k → slice_index_or xs k d ≡ d
index_past [] d k le = refl
index_past (y ∷ xs) d zero le = absurd (omega (arith, le))
index_past (y ∷ xs) d (suc k) le = index_past xs d k (omega (arith, le))

-- a list of locations keeps those that it has
pub with_kept : (list : List Location) (here : Location) (i : ℕ) (l : Location) → slice_get list i ≡ Some l
    → slice_get (with_location list here) i ≡ Some l
with_kept list here i l is = by (is_among list here) refl
  where
    by : (b : Bool) → is_among list here ≡ b → slice_get (with_location list here) i ≡ Some l
    by true there = rw there is
    by false not = rw not (get_before list here i l is)

-- a location has its site also among more
pub still_at : (list more : List Location) (site : ℕ) (l : Location)
    → ((i : ℕ) (k : Location) → slice_get list i ≡ Some k → slice_get more i ≡ Some k) → IsAt list site l → IsAt more site l
still_at list more site l kept at = record { kept = at.kept; there = kept site at.kept at.there; alike = at.alike }

pub some_of : {X : Type 0} (o : Option X) → is_some o ≡ true → (x : X) × (o ≡ Some x)
some_of None is = cc
some_of (Some x) is = (x, refl)

pub from_none : {X : Type 0} (o : Option X) (Q : Type 0) → o ≡ None → IfNone o Q → Q
from_none None Q is q = q
from_none (Some x) Q is q = cc

-- ==== the places of a store

-- what a spot is read as past the last
abbrev pub no_spot : Spot
no_spot = record { place = record { id = record { store = 0; slot = 0; generation = 0 }; created_at = nowhere }; part = 0 }

pub spot_at : (spots : List Spot) (k : ℕ) → k < length spots → slice_get spots k ≡ Some (slice_index_or spots k no_spot)
spot_at spots k lt = slice_get-get_or spots k no_spot lt

module _ {S : State ℕ} (s : IsSound S) (simple : IsSimple S) where
  pub lead_within : (id : GenerationalBoxId) (key : ℕ) → Leads S key id → id.slot < slots S
  lead_within id key is = simple.bounded.dense id.slot
      (grind (arith, slot_made S, s.given (name_in id), seen_cell S (at_id id) (ap is_some is)))

  pub cell_within : (b : GenerationalPointer) → is_some (value_in S b) ≡ true → b.id.slot < slots S
  cell_within b seen = simple.bounded.dense b.id.slot (grind (arith, slot_made S, s.given (name_of b), seen_cell S b seen))

  pub one_place : (x y : GenerationalBoxId) (i j : ℕ) → Leads S i x → Leads S j y → x.slot ≡ y.slot → x ≡ y
  one_place x y i j is has at =
      let one = seen_cell S (at_id x) (ap is_some is) in
      let two = seen_cell S (at_id y) (ap is_some has) in
      one_id S (at_id x) (at_id y) s (ap is_some is) (ap is_some has)
      (simple.bounded.last (name_in x) one ∙ (ap (last_name S) at ∙ sym (simple.bounded.last (name_in y) two)))

pub noted_none : (S : State ℕ) (flags : List Bool) → ((k : ℕ) → slice_index_or flags k false ≡ false) → ArePlacesNoted S [] flags
noted_none S flags none = record {
  live = λ k m is. absurd (none-some m is);
  apart = λ j k m n is has at. absurd (none-some m is);
  seen = λ k m is. absurd (none-some m is);
  only = λ slot is. absurd (true≢false (sym is ∙ none slot));
}

module _ {S : State ℕ} {spots : List Spot} {flags : List Bool} (noted : ArePlacesNoted S spots flags) (m : Spot)
    (lives : Leads S m.part m.place.id) (new : slice_index_or flags m.place.id.slot false ≡ false)
    (within : m.place.id.slot < length flags) where
  pub flag_kept : (slot : ℕ) → slice_index_or flags slot false ≡ true
      → slice_index_or (slice_set flags m.place.id.slot true) slot false ≡ true
  flag_kept slot is = ⊎_elim
      (λ same. absurd (true≢false (sym is ∙ (ap (λ k. slice_index_or flags k false) same ∙ new))))
      (λ other. get_or-set_other flags m.place.id.slot slot true false other ∙ is)
      (key_cases by_number slot m.place.id.slot)

  clash : (k : ℕ) (n : Spot) → slice_get spots k ≡ Some n → n.place.id.slot ≡ m.place.id.slot → ⊥
  clash k n is at = true≢false (sym (noted.seen k n is) ∙ (ap (λ t. slice_index_or flags t false) at ∙ new))

  pub noted_more : ArePlacesNoted S (spots ++ m ∷ []) (slice_set flags m.place.id.slot true)
  noted_more = record {
    live = λ k n is. ⊎_elim (λ old. noted.live k n old)
        (λ last. subst (λ (x : Spot). Leads S x.part x.place.id) last.1 lives) (get_pushed spots k m n is);
    apart = λ j k a b is has at. ⊎_elim
        (λ old. ⊎_elim (λ older. noted.apart j k a b old older at)
        (λ last. absurd (clash j a old (at ∙ ap (λ (x : Spot). x.place.id.slot) (sym last.1)))) (get_pushed spots k m b has))
        (λ last. ⊎_elim
        (λ older. absurd (clash k b older (sym at ∙ ap (λ (x : Spot). x.place.id.slot) (sym last.1))))
        (λ later. last.0 ∙ sym later.0) (get_pushed spots k m b has))
        (get_pushed spots j m a is);
    seen = λ k n is. ⊎_elim (λ old. flag_kept n.place.id.slot (noted.seen k n old))
        (λ last. subst (λ (x : Spot). slice_index_or (slice_set flags m.place.id.slot true) x.place.id.slot false ≡ true)
        last.1 (get_or-set_same flags m.place.id.slot true false within))
        (get_pushed spots k m n is);
    only = λ slot is. ⊎_elim
        (λ same. (length spots, m, get_last spots m, sym same))
        (λ other.
        let it = noted.only slot (sym (get_or-set_other flags m.place.id.slot slot true false other) ∙ is) in
        (it.0, it.1, get_before spots m it.0 it.1 it.2, it.3))
        (key_cases by_number slot m.place.id.slot);
  }

-- with one more cell noted
pub done_more : (cells : List GenerationalPointer) (before after : List Bool) (n : ℕ) (c : GenerationalPointer)
    → slice_get cells n ≡ Some c → slice_index_or after c.id.slot false ≡ true
    → ((slot : ℕ) → slice_index_or before slot false ≡ true → slice_index_or after slot false ≡ true)
    → ((k : ℕ) (b : GenerationalPointer) → k < n → slice_get cells k ≡ Some b → slice_index_or before b.id.slot false ≡ true)
    → (k : ℕ) (b : GenerationalPointer) → k < n + 1 → slice_get cells k ≡ Some b → slice_index_or after b.id.slot false ≡ true
done_more cells before after n c here now kept done k b lt is = ⊎_elim
    (λ same. subst (λ (x : GenerationalPointer). slice_index_or after x.id.slot false ≡ true)
    (same_Some c b (sym here ∙ (ap (slice_get cells) (sym same) ∙ is))) now)
    (λ ne. kept b.id.slot (done k b (omega (arith, lt, ne)) is))
    (key_cases by_number k n)

-- a spot more refers to a part
pub listed_more : {T : Type 0} (rows : List (Option (DocumentPart T))) (spots : List Spot) (m : Spot) → HaveParts rows spots
    → is_some (part_row rows m.part) ≡ true → HaveParts rows (spots ++ m ∷ [])
listed_more rows spots m are here k n is = ⊎_elim (λ old. are k n old)
    (λ last. subst (λ (x : Spot). is_some (part_row rows x.part) ≡ true) last.1 here) (get_pushed spots k m n is)

-- once all cells were noted these are all places
pub spots_whole : {S : State ℕ} → IsSound S → IsSimple S → (spots : List Spot) (flags : List Bool) → ArePlacesNoted S spots flags
    → (cells : List GenerationalPointer) (n : ℕ) → length cells ≤ n
    → ((b : GenerationalPointer) → is_some (value_in S b) ≡ true
    → (k : ℕ) × (c : GenerationalPointer) × (slice_get cells k ≡ Some c) × (c.id ≡ b.id))
    → ((k : ℕ) (b : GenerationalPointer) → k < n → slice_get cells k ≡ Some b → slice_index_or flags b.id.slot false ≡ true)
    → AreSpots S spots
spots_whole {S} s simple spots flags noted cells n whole every done = record {
  live = noted.live;
  apart = λ j k m o is has same. noted.apart j k m o is has (ap (λ i. i.slot) same);
  every = λ id index is.
      let it = every (at_id id) (ap is_some is) in
      let flag = done it.0 it.1 (omega (arith, slice_get_within cells it.0 it.1 it.2, whole)) it.2 in
      let at = noted.only it.1.id.slot flag in (
        at.0,
        at.1,
        at.2,
        one_place s simple at.1.place.id id at.1.part index (noted.live at.0 at.1 at.2) is (at.3 ∙ ap (λ i. i.slot) it.3),
      );
}

-- ==== how many places refer to each part

pub counted_none : (spots : List Spot) (counts : List ℕ) → ((k : ℕ) → slice_index_or counts k 0 ≡ 0) → AreSpotsCounted spots 0 counts
counted_none spots counts none index =
    subst (λ c. AreExactly c (IsSpotAmong spots 0 index)) (sym (none index)) (λ id is. omega (arith, is.2))

module _ (spots : List Spot) (apart : HaveOwnPlaces spots) (n : ℕ) (m : Spot) (here : slice_get spots n ≡ Some m) where
  among_more : (index : ℕ) (id : GenerationalBoxId) → IsSpotAmong spots n index id → IsSpotAmong spots (n + 1) index id
  among_more index id is = (is.0, is.1, omega (arith, is.2), is.3, is.4, is.5)

  among_less : (index : ℕ) (id : GenerationalBoxId) → IsSpotAmong spots (n + 1) index id
      → IsSpotAmong spots n index id ⊎ ((m.part ≡ index) × (m.place.id ≡ id))
  among_less index id is = ⊎_elim
      (λ same.
      let one : is.1 ≡ m = same_Some is.1 m (sym is.3 ∙ (ap (slice_get spots) same ∙ here)) in
      inr (subst (λ (x : Spot). (x.part ≡ index) × (x.place.id ≡ id)) one (is.4, is.5)))
      (λ other. inl (is.0, is.1, omega (arith, is.2, other), is.3, is.4, is.5))
      (key_cases by_number is.0 n)

  among_new : IsSpotAmong spots n m.part m.place.id → ⊥
  among_new is = let same = apart is.0 n is.1 m is.3 here is.5 in omega (arith, is.2, same)

  module _ (counts : List ℕ) (within : m.part < length counts) (are : AreSpotsCounted spots n counts) (c : ℕ)
      (more : c ≡ slice_index_or counts m.part 0 + 1) where
    gain : AreExactly (slice_index_or (slice_set counts m.part c) m.part 0) (IsSpotAmong spots (n + 1) m.part)
    gain =
        let next : suc (slice_index_or counts m.part 0) ≡ slice_index_or (slice_set counts m.part c) m.part 0 =
        omega (arith, more, get_or-set_same counts m.part c 0 within) in
        subst (λ k. AreExactly k (IsSpotAmong spots (n + 1) m.part)) next
        (counted_more one_or_two (slice_index_or counts m.part 0) (IsSpotAmong spots n m.part) (IsSpotAmong spots (n + 1) m.part)
        m.place.id (n, m, omega arith, here, refl, refl) among_new (λ y is. among_more m.part y is)
        (λ y ne is. ⊎_elim (λ old. old) (λ own. absurd (ne (sym own.1))) (among_less m.part y is)) (are m.part))

    pub counted_place : AreSpotsCounted spots (n + 1) (slice_set counts m.part c)
    counted_place index = ⊎_elim
        (λ same. subst (λ i. AreExactly (slice_index_or (slice_set counts m.part c) i 0) (IsSpotAmong spots (n + 1) i)) (sym same) gain)
        (λ other. subst (λ k. AreExactly k (IsSpotAmong spots (n + 1) index)) (sym (get_or-set_other counts m.part index c 0 other))
        (counted_alike (slice_index_or counts index 0) (IsSpotAmong spots n index) (IsSpotAmong spots (n + 1) index)
        (λ id is. among_more index id is)
        (λ id is. ⊎_elim (λ old. old) (λ own. absurd (other (sym own.0))) (among_less index id is)) (are index)))
        (key_cases by_number index m.part)

-- ==== a place that comes to refer to the key of its part

module _ {S R : State ℕ} (spots : List Spot) (apart : HaveOwnPlaces spots) (keys : List ℕ) (n : ℕ) (m : Spot)
    (here : slice_get spots n ≡ Some m) (s : IsSound S) (simple : IsSimple S) (old : ℕ)
    (met : Meets S (SetValue m.place (slice_index_or keys m.part 0)) (Old old) R) where
  moves : Moves S R m.place.id (Some old) (Some (slice_index_or keys m.part 0))
  moves = set_moves_at s simple.plain m.place (slice_index_or keys m.part 0) old met

  apart_from : (k : ℕ) (o : Spot) → slice_get spots k ≡ Some o → k ≢ n → o.place.id ≢ m.place.id
  apart_from k o is ne same = ne (apart k n o m is here same)

  pub led_more : ((k : ℕ) (o : Spot) → k < n → slice_get spots k ≡ Some o
      → key_in S o.place.id ≡ Some (slice_index_or keys o.part 0))
      → (k : ℕ) (o : Spot) → k < n + 1 → slice_get spots k ≡ Some o
      → key_in R o.place.id ≡ Some (slice_index_or keys o.part 0)
  led_more led k o lt is = ⊎_elim
      (λ same. subst (λ (x : Spot). key_in R x.place.id ≡ Some (slice_index_or keys x.part 0))
      (same_Some m o (sym here ∙ (ap (slice_get spots) (sym same) ∙ is))) moves.is)
      (λ ne. moves.others o.place.id (apart_from k o is ne) ∙ led k o (omega (arith, lt, ne)) is)
      (key_cases by_number k n)

  pub led_rest : ((k : ℕ) (o : Spot) → n ≤ k → slice_get spots k ≡ Some o → Leads S o.part o.place.id)
      → (k : ℕ) (o : Spot) → n + 1 ≤ k → slice_get spots k ≡ Some o → Leads R o.part o.place.id
  led_rest rest k o le is =
      moves.others o.place.id (apart_from k o is (λ same. omega (arith, le, same))) ∙ rest k o (omega (arith, le)) is

  pub led_none : (first : State ℕ) → ((id : GenerationalBoxId) → key_in first id ≡ None → key_in S id ≡ None)
      → (id : GenerationalBoxId) → key_in first id ≡ None → key_in R id ≡ None
  led_none first none id is = ⊎_elim
      (λ one. absurd (none-some old (sym (none id is) ∙ (ap (key_in S) one ∙ moves.was))))
      (λ two. moves.others id two ∙ none id is) (one_or_two id m.place.id)

-- ==== a part that comes to a key of its own

pub put_some : {T : Type 0} (old new : Slab (Part T)) (row : Option (DocumentPart T)) (r : DocumentPart T) (part : Part T)
    (count at key : ℕ) → row ≡ Some r → slice_index_or old.slots key None ≡ None → Updates old new key (Some part)
    → part.content ≡ r.content → part.children ≡ r.children → part.places ≡ count → part.site ≡ at
    → IsPartPut old.slots row count at key new.slots
put_some old new row r part count at key is vacant u content children places site =
    subst (λ o. IsPartPut old.slots o count at key new.slots) (sym is) (
      vacant,
      record { part = part; there = u.changed; content = content; children = children; places = places; site = site },
      λ other ne. u.others other ne,
    )

pub put_none : {T : Type 0} (rows : List (Option (DocumentPart T))) (counts sites keys : List ℕ)
    (parts : List (Option (Part T))) → parts ≡ [] → ArePut rows counts sites keys parts 0
put_none rows counts sites keys parts none = record {
  put = λ index r lt is. absurd (omega (arith, lt));
  only = λ key part is. absurd (none-some part (sym (ap (λ xs. row_in xs key) none) ∙ is));
  apart = λ i j r q lt less is has same. absurd (omega (arith, lt));
}

module _ {T : Type 0} {rows : List (Option (DocumentPart T))} {counts sites keys : List ℕ}
    {parts : List (Option (Part T))} where
  module _ (n key : ℕ) (are : ArePut rows counts sites keys parts n) (long : length keys ≡ n) where
    before : (i : ℕ) → i < n → slice_index_or (keys ++ key ∷ []) i 0 ≡ slice_index_or keys i 0
    before i lt = index_before keys key 0 i (omega (arith, lt, long))

    last : slice_index_or (keys ++ key ∷ []) n 0 ≡ key
    last = index_last keys key 0 n long

    less : (i : ℕ) → i < n + 1 → i ≢ n → i < n
    less i lt ne = omega (arith, lt, ne)

    pub put_more : (new : List (Option (Part T))) (row : Option (DocumentPart T)) → part_row rows n ≡ row
        → IsPartPut parts row (slice_index_or counts n 0) (slice_index_or sites n 0) key new
        → ArePut rows counts sites (keys ++ key ∷ []) new (n + 1)
    put_more new None here came = record {
      put = λ index r lt is.
          let old = less index lt (λ e. none-some r (sym here ∙ (ap (part_row rows) (sym e) ∙ is))) in
          let it = are.put index r old is in
          subst (λ k. IsAtKey r (slice_index_or counts index 0) (slice_index_or sites index 0) k new) (sym (before index old))
          (subst (λ xs. IsAtKey r (slice_index_or counts index 0) (slice_index_or sites index 0) (slice_index_or keys index 0) xs)
          (sym came) it);
      only = λ k part is.
          let it = are.only k part (subst (λ xs. slice_index_or xs k None ≡ Some part) came is) in
          (it.0, it.1, omega (arith, it.2), it.3, before it.0 it.2 ∙ it.4);
      apart = λ i j r q lt lower is has same.
          let one = less i lt (λ e. none-some r (sym here ∙ (ap (part_row rows) (sym e) ∙ is))) in
          let two = less j lower (λ e. none-some q (sym here ∙ (ap (part_row rows) (sym e) ∙ has))) in
          are.apart i j r q one two is has (sym (before i one) ∙ (same ∙ before j two));
    }
    put_more new (Some row) here came = record {
      put = λ index r lt is. ⊎_elim
          (λ same.
          let own : row ≡ r = same_Some row r (sym here ∙ (ap (part_row rows) (sym same) ∙ is)) in
          subst (λ i. IsAtKey r (slice_index_or counts i 0) (slice_index_or sites i 0) (slice_index_or (keys ++ key ∷ []) i 0) new)
          (sym same) (subst (λ k. IsAtKey r (slice_index_or counts n 0) (slice_index_or sites n 0) k new) (sym last)
          (subst (λ d. IsAtKey d (slice_index_or counts n 0) (slice_index_or sites n 0) key new) own came.1)))
          (λ ne.
          let old = less index lt ne in
          let it = are.put index r old is in
          subst (λ k. IsAtKey r (slice_index_or counts index 0) (slice_index_or sites index 0) k new) (sym (before index old))
          (record {
            part = it.part;
            there = came.2 (slice_index_or keys index 0) (apart_key index r old is) ∙ it.there;
            content = it.content;
            children = it.children;
            places = it.places;
            site = it.site;
          }))
          (key_cases by_number index n);
      only = λ k part is. ⊎_elim
          (λ same. (n, row, omega arith, here, last ∙ sym same))
          (λ ne.
          let it = are.only k part (sym (came.2 k ne) ∙ is) in
          (it.0, it.1, omega (arith, it.2), it.3, before it.0 it.2 ∙ it.4))
          (key_cases by_number k key);
      apart = λ i j r q lt lower is has same. ⊎_elim
          (λ one. ⊎_elim (λ two. one ∙ sym two)
          (λ two. absurd (apart_key j q (less j lower two) has
          (sym (before j (less j lower two)) ∙ (sym same ∙ (ap (λ x. slice_index_or (keys ++ key ∷ []) x 0) one ∙ last)))))
          (key_cases by_number j n))
          (λ one. ⊎_elim
          (λ two. absurd (apart_key i r (less i lt one) is
          (sym (before i (less i lt one)) ∙ (same ∙ (ap (λ x. slice_index_or (keys ++ key ∷ []) x 0) two ∙ last)))))
          (λ two. are.apart i j r q (less i lt one) (less j lower two) is has
          (sym (before i (less i lt one)) ∙ (same ∙ before j (less j lower two))))
          (key_cases by_number j n))
          (key_cases by_number i n);
    }
      where
        apart_key : (i : ℕ) (r : DocumentPart T) → i < n → part_row rows i ≡ Some r → slice_index_or keys i 0 ≢ key
        apart_key i r lt is same =
            let it = are.put i r lt is in
            none-some it.part (sym came.0 ∙ (ap (row_in parts) (sym same) ∙ it.there))

-- ==== a document of places and parts

module _ {S : State ℕ} (spots : List Spot) (all : AreSpots S spots) where
  pub among_leads : (n index : ℕ) (id : GenerationalBoxId) → IsSpotAmong spots n index id → Leads S index id
  among_leads n index id is =
      ap (key_in S) (sym is.5) ∙ (all.live is.0 is.1 is.3 ∙ ap Some is.4)

  pub leads_among : (index : ℕ) (id : GenerationalBoxId) → Leads S index id → IsSpotAmong spots (length spots) index id
  leads_among index id is =
      let it = all.every id index is in
      let part : it.1.part ≡ index =
      same_Some it.1.part index (sym (all.live it.0 it.1 it.2) ∙ (ap (key_in S) it.3 ∙ is)) in
      (it.0, it.1, slice_get_within spots it.0 it.1 it.2, it.2, part, it.3)

  module _ {T : Type 0} (rows : List (Option (DocumentPart T))) (listed : HaveParts rows spots) where
    pub leads_row : (id : GenerationalBoxId) (index : ℕ) → Leads S index id
        → (r : DocumentPart T) × (part_row rows index ≡ Some r)
    leads_row id index is =
        let it = leads_among index id is in
        some_of (part_row rows index) (ap (λ i. is_some (part_row rows i)) (sym it.4) ∙ listed it.0 it.1 it.3)

    pub spots_fit : (counts : List ℕ) → AreSpotsCounted spots (length spots) counts → AreUsed rows counts (length rows) → AreParts S rows
    spots_fit counts are used = record {
      named = λ id index is. let it = leads_row id index is in ap is_some it.1;
      used = λ index r is. first index (slice_index_or counts index 0) (used index r (within_list rows index r is) is) (are index);
    }
      where
        first : (index count : ℕ) → 0 < count → AreExactly count (IsSpotAmong spots (length spots) index)
            → (id : GenerationalBoxId) × Leads S index id
        first index zero lt k = absurd (omega (arith, lt))
        first index (suc count) lt k = (k.0, among_leads (length spots) index k.0 k.1)

    -- a part of which no place was counted has none
    pub unused : (counts : List ℕ) → AreSpotsCounted spots (length spots) counts → (index : ℕ) → slice_index_or counts index 0 ≡ 0
        → (id : GenerationalBoxId) → Leads S index id → ⊥
    unused counts are index none id is =
        subst (λ c. AreExactly c (IsSpotAmong spots (length spots) index)) none (are index) id (leads_among index id is)

    module _ (R : State ℕ) (counts sites keys : List ℕ) (parts : List (Option (Part T)))
        (put : ArePut rows counts sites keys parts (length rows))
        (led : (k : ℕ) (m : Spot) → slice_get spots k ≡ Some m
        → key_in R m.place.id ≡ Some (slice_index_or keys m.part 0))
        (none : (id : GenerationalBoxId) → key_in S id ≡ None → key_in R id ≡ None) where
      -- each place refers to the key of its part, and to no other
      pub leads_key : (id : GenerationalBoxId) (index : ℕ) → Leads S index id → Leads R (slice_index_or keys index 0) id
      leads_key id index is =
          let it = leads_among index id is in
          ap (key_in R) (sym it.5) ∙ (led it.0 it.1 it.3 ∙ ap (λ i. Some (slice_index_or keys i 0)) it.4)

      pub key_leads : (id : GenerationalBoxId) (key : ℕ) → Leads R key id
          → (index : ℕ) × Leads S index id × (slice_index_or keys index 0 ≡ key)
      key_leads id key is = by_option (key_in S id) (λ no. absurd (none-some key (sym (none id no) ∙ is)))
          (λ index has. (index, has, same_Some _ key (sym (leads_key id index has) ∙ is)))

      at_index : (index : ℕ) (r : DocumentPart T) → part_row rows index ≡ Some r
          → IsAtKey r (slice_index_or counts index 0) (slice_index_or sites index 0) (slice_index_or keys index 0) parts
      at_index index r is = put.put index r (within_list rows index r is) is

      -- the part under a key is the one that came there
      pub record IsFrom (key : ℕ) (part : Part T) : Type 0 where
        pub index : ℕ
        pub row : DocumentPart T
        pub has : part_row rows index ≡ Some row
        pub own : slice_index_or keys index 0 ≡ key
        pub places : part.places ≡ slice_index_or counts index 0
        pub site : part.site ≡ slice_index_or sites index 0

      from_row : (key : ℕ) (part : Part T) → row_in parts key ≡ Some part → IsFrom key part
      from_row key part is =
          let it = put.only key part is in
          let at = at_index it.0 it.1 it.3 in
          let same : at.part ≡ part =
          same_Some at.part part (sym at.there ∙ (ap (row_in parts) it.4 ∙ is)) in
          record {
            index = it.0;
            row = it.1;
            has = it.3;
            own = it.4;
            places = ap (λ p. p.places) (sym same) ∙ at.places;
            site = ap (λ p. p.site) (sym same) ∙ at.site;
          }

      built_counted : AreSpotsCounted spots (length spots) counts → (key : ℕ) → AreExactly (places_of (row_in parts key)) (Leads R key)
      built_counted are key = by_option (row_in parts key)
          (λ no. subst (λ row. AreExactly (places_of row) (Leads R key)) (sym no) (λ id is.
          let from = key_leads id key is in
          let row = leads_row id from.0 from.1 in
          let at = at_index from.0 row.0 row.1 in
          none-some at.part (sym no ∙ (ap (row_in parts) (sym from.2) ∙ at.there))))
          (λ part is.
          let from = from_row key part is in
          subst (λ n. AreExactly n (Leads R key)) (sym from.places ∙ sym (ap places_of is))
          (counted_alike (slice_index_or counts from.index 0) (IsSpotAmong spots (length spots) from.index) (Leads R key)
          (λ id among. subst (λ k. Leads R k id) from.own (leads_key id from.index (among_leads (length spots) from.index id among)))
          (λ id leads.
          let was = key_leads id key leads in
          let row = leads_row id was.0 was.1 in
          let one : was.0 ≡ from.index = put.apart was.0 from.index row.0 from.row (within_list rows was.0 row.0 row.1)
          (within_list rows from.index from.row from.has) row.1 from.has (was.2 ∙ sym from.own) in
          leads_among from.index id (subst (λ i. Leads S i id) one was.1))
          (are from.index)))

      pub built_kept : IsSound S → IsSimple S → IsSimple R → slots S ≤ 4294967295 → AreSpotsCounted spots (length spots) counts
          → AreUsed rows counts (length rows) → (told : List Location) → AreSited told rows sites (length rows)
          → IsDocumentKept R parts told
      built_kept s old simple few are used told sited = record {
        simple = simple;
        small = λ id key is. let was = key_leads id key is in omega (arith, lead_within s old id was.0 was.1, few);
        counted = built_counted are;
        told = λ key. by_option (row_in parts key) (λ no. subst (IsTold told) (sym no) tt)
            (λ part is. subst (IsTold told) (sym is) (told_part key part (from_row key part is)));
      }
        where
          told_part : (key : ℕ) (part : Part T) → IsFrom key part → IsTold told (Some part)
          told_part key part from =
              let lt = within_list rows from.index from.row from.has in
              let at = sited from.index from.row lt from.has in
              let within = slice_get_within told (slice_index_or sites from.index 0) at.kept at.there in
              let some = used from.index from.row lt from.has in
              (omega (arith, within, from.site), omega (arith, some, from.places))

      pub built_shown : (p : Place) → shown_of (part_at parts (value_in R (pointer_in p))) ≡ shown_told S rows p
      built_shown p = by_option (key_in S (id_in p))
          (λ no. ap (λ o. shown_of (part_at parts o)) (none (id_in p) no) ∙ sym (ap (λ o. shown_row (row_told rows o)) no))
          (λ index has.
          let row = leads_row (id_in p) index has in
          let at = at_index index row.0 row.1 in
          ap (λ o. shown_of (part_at parts o)) (leads_key (id_in p) index has)
          ∙ (ap shown_of at.there ∙ (alike at.part row.0 at.content (ap (λ v. v.items) at.children)
          ∙ sym (ap (λ o. shown_row (row_told rows o)) has ∙ ap shown_row row.1))))
        where
          alike : (part : Part T) (r : DocumentPart T) → part.content ≡ r.content → part.children.items ≡ r.children.items
              → shown_by part ≡ shown_row (Some r)
          alike part r content children i = Some (record { content = content i; children = children i })

      pub built_same : (p q : Place) → (value_in R (pointer_in p) ≡ value_in R (pointer_in q))
          ↔ (value_in S (pointer_in p) ≡ value_in S (pointer_in q))
      built_same p q = (forth, back)
        where
          forth : value_in R (pointer_in p) ≡ value_in R (pointer_in q) → value_in S (pointer_in p) ≡ value_in S (pointer_in q)
          forth same = by_option (key_in S (id_in p))
              (λ no. by_option (key_in S (id_in q)) (λ neither. no ∙ sym neither)
              (λ j has. absurd (none-some (slice_index_or keys j 0)
              (sym (none (id_in p) no) ∙ (same ∙ leads_key (id_in q) j has)))))
              (λ i is. by_option (key_in S (id_in q))
              (λ no. absurd (none-some (slice_index_or keys i 0)
              (sym (none (id_in q) no) ∙ (sym same ∙ leads_key (id_in p) i is))))
              (λ j has.
              let one = leads_row (id_in p) i is in
              let two = leads_row (id_in q) j has in
              let keys_same = same_Some _ _ (sym (leads_key (id_in p) i is) ∙ (same ∙ leads_key (id_in q) j has)) in
              is ∙ (ap Some (put.apart i j one.0 two.0 (within_list rows i one.0 one.1) (within_list rows j two.0 two.1)
              one.1 two.1 keys_same) ∙ sym has)))

          back : value_in S (pointer_in p) ≡ value_in S (pointer_in q) → value_in R (pointer_in p) ≡ value_in R (pointer_in q)
          back same = by_option (key_in S (id_in p))
              (λ no. none (id_in p) no ∙ sym (none (id_in q) (sym same ∙ no)))
              (λ i is. leads_key (id_in p) i is ∙ sym (leads_key (id_in q) i (sym same ∙ is)))

      pub built_added : (told : List Location) → AreSited told rows sites (length rows) → (p : Place) (r : DocumentPart T)
          → row_told rows (value_in S (pointer_in p)) ≡ Some r
          → TellsLocation (site_told told (part_at parts (value_in R (pointer_in p)))) r.created_at
      built_added told sited p r is = by_option (key_in S (id_in p))
          (λ no. absurd (none-some r (sym (ap (row_told rows) no) ∙ is)))
          (λ index has.
          let row : part_row rows index ≡ Some r = sym (ap (row_told rows) has) ∙ is in
          let at = at_index index r row in
          let own = sited index r (within_list rows index r row) row in (
            own.kept,
            ap (λ o. site_told told (part_at parts o)) (leads_key (id_in p) index has)
                ∙ (ap (site_told told) at.there ∙ (ap (slice_get told) at.site ∙ own.there)),
            own.alike,
          ))

-- a place of a high slot has nothing
pub gone_high : {T : Type 0} {S : State ℕ} {parts : List (Option (Part T))} {sites : List Location} → IsDocumentKept S parts sites
    → (p : Place) → 4294967295 ≤ p.slot → shown_of (part_at parts (value_in S (pointer_in p))) ≡ None
gone_high {T} {S} {parts} k p le = by_option (key_in S (id_in p))
    (λ no. ap (λ o. shown_of (part_at parts o)) no)
    (λ key is. absurd (omega (arith, k.small (id_in p) key is, le)))

-- a list without a part that was taken out
pub taken_rest : {T : Type 0} (rows first : List (Option (DocumentPart T))) (n : ℕ) (left : Option (DocumentPart T))
    → ((k : ℕ) → n ≤ k → part_row rows k ≡ part_row first k) → (k : ℕ) → n + 1 ≤ k
    → part_row (slice_set rows n left) k ≡ part_row first k
taken_rest rows first n left rest k le =
    get_or-set_other rows n k left None (λ same. omega (arith, le, same)) ∙ rest k (omega (arith, le))

-- ==== what a plan has

pub listed_within : {T : Type 0} (rows : List (Option (DocumentPart T))) (spots : List Spot) → HaveParts rows spots
    → (k : ℕ) (m : Spot) → slice_get spots k ≡ Some m → m.part < length rows
listed_within rows spots are k m is =
    let it = some_of (part_row rows m.part) (are k m is) in within_list rows m.part it.0 it.1

module _ {T : Type 0} (rows : List (Option (DocumentPart T))) (counts : List ℕ) (n : ℕ) (row : Option (DocumentPart T))
    (here : part_row rows n ≡ row) where
  pub used_more : ((r : DocumentPart T) → row ≡ Some r → 0 < slice_index_or counts n 0) → AreUsed rows counts n
      → AreUsed rows counts (n + 1)
  used_more now are index r lt is = ⊎_elim
      (λ same. subst (λ i. 0 < slice_index_or counts i 0) (sym same)
      (now r (sym here ∙ (ap (part_row rows) (sym same) ∙ is))))
      (λ ne. are index r (omega (arith, lt, ne)) is)
      (key_cases by_number index n)

module _ {T : Type 0} (rows : List (Option (DocumentPart T))) (all more : List Location) (sites : List ℕ) (n site : ℕ)
    (row : Option (DocumentPart T)) (here : part_row rows n ≡ row) (long : length sites ≡ n) where
  pub sited_more : ((r : DocumentPart T) → row ≡ Some r → IsAt more site r.created_at)
      → ((i : ℕ) (l : Location) → slice_get all i ≡ Some l → slice_get more i ≡ Some l) → AreSited all rows sites n
      → AreSited more rows (sites ++ site ∷ []) (n + 1)
  sited_more now kept are index r lt is = ⊎_elim
      (λ same. subst (λ i. IsAt more (slice_index_or (sites ++ site ∷ []) i 0) r.created_at) (sym same)
      (subst (λ k. IsAt more k r.created_at) (sym (index_last sites site 0 n long))
      (now r (sym here ∙ (ap (part_row rows) (sym same) ∙ is)))))
      (λ ne.
      let old : index < n = omega (arith, lt, ne) in
      let at = are index r old is in
      subst (λ k. IsAt more k r.created_at) (sym (index_before sites site 0 index (omega (arith, old, long))))
      (still_at all more (slice_index_or sites index 0) r.created_at kept at))
      (key_cases by_number index n)

module _ {S : State ℕ} {T : Type 0} (spots : List Spot) (all : AreSpots S spots) (rows : List (Option (DocumentPart T)))
    (listed : HaveParts rows spots) (counts : List ℕ) (are : AreSpotsCounted spots (length spots) counts) (fault : PartsFault)
    (why : (fault ≡ Cell OutOfMemory) ⊎ ((index : ℕ) × (r : DocumentPart T) × (fault ≡ Unused index)
    × (part_row rows index ≡ Some r) × (slice_index_or counts index 0 ≡ 0))) where
  pub plan_fault : IsPartsFault S rows fault
  plan_fault = ⊎_elim (λ short. subst (IsPartsFault S rows) (sym short) tt)
      (λ it. subst (IsPartsFault S rows) (sym it.2) (it.1, it.3, unused spots all rows listed counts are it.0 it.4)) why

  pub plan_short : AreParts S rows → fault ≡ Cell OutOfMemory
  plan_short fits = ⊎_elim (λ short. short)
      (λ it.
      let has = fits.used it.0 it.1 it.3 in absurd (unused spots all rows listed counts are it.0 it.4 has.0 has.1)) why

-- a handle with the site of its part says where that was added
pub found_here : {T : Type 0} {S : State ℕ} (parts : List (Option (Part T))) (sites : List Location) → IsSound S
    → (p probe : Place) (site key : ℕ) → id_in p ≡ id_in probe → p.site ≡ site → value_in S (pointer_in probe) ≡ Some key
    → site_told sites (part_at parts (value_in S (pointer_in probe))) ≡ slice_get sites site
    → told_at S.number sites p ≡ site_told sites (part_at parts (value_in S (pointer_in p)))
found_here {T} {S} parts sites s p probe site key same at is added =
    let own : p.store ≡ S.number = ap (λ i. i.store) same ∙ seen_store S (pointer_in probe) s (ap is_some is) in
    told_own S.number sites p own ∙ (ap (slice_get sites) at
    ∙ (sym added ∙ ap (λ o. site_told sites (part_at parts o)) (same_id_sees S (pointer_in probe) (pointer_in p) (sym same))))

-- an element that was read, by another default
pub read_at : {X : Type 0} (xs : List X) (i : ℕ) (x d : X) → i < length xs → x ≡ slice_index_or xs i x
    → slice_index_or xs i d ≡ x
read_at [] i x d lt is = absurd (omega (arith, lt))
read_at (y ∷ xs) zero x d lt is = sym is
read_at (y ∷ xs) (suc i) x d lt is = read_at xs i x d (omega (arith, lt)) is

-- all parts are at their keys
pub put_whole : {T : Type 0} {rows : List (Option (DocumentPart T))} {counts sites keys : List ℕ}
    {parts : List (Option (Part T))} (n : ℕ) → length rows ≤ n → ArePut rows counts sites keys parts n
    → ArePut rows counts sites keys parts (length rows)
put_whole {T} {rows} n whole are = record {
  put = λ index r lt is. are.put index r (omega (arith, lt, whole)) is;
  only = λ key part is.
      let it = are.only key part is in (it.0, it.1, within_list rows it.0 it.1 it.3, it.3, it.4);
  apart = λ i j r q lt lower is has same. are.apart i j r q (omega (arith, lt, whole)) (omega (arith, lower, whole)) is has same;
}

-- ==== all locations are published

pub told_whole : (s : SiteState) (all : List Location) → s.all ≡ all → s.told ≡ length all → told_in s ≡ all
told_whole s all same told = take_all s.told s.all (omega (arith, ap length same, told)) ∙ same

pub still_all : (n m : ℕ) (s : SiteState) (all told : List Location) (p : Place) (l : Location) → m ≡ n → told_in s ≡ told
    → all ≡ s.all → told_at n told p ≡ Some l → told_at m all p ≡ Some l
still_all n m s all told p l number was same is = rw number (both (nat_eq p.store n) refl)
  where
    both : (b : Bool) → nat_eq p.store n ≡ b → (if b then slice_get all p.site else None) ≡ Some l
    both true own =
        let here : slice_get (take s.told s.all) p.site ≡ Some l =
        ap (λ xs. slice_get xs p.site) was ∙ (sym (ap (λ b. if b then slice_get told p.site else None) own) ∙ is) in
        ap (λ xs. slice_get xs p.site) same
        ∙ (sym (get_take s.all s.told p.site (take_within s.all s.told p.site l here)) ∙ here)
    both false other = absurd (none-some l (sym (ap (λ b. if b then slice_get told p.site else None) other) ∙ is))

-- ==== a document that was made

-- it is sound, and tells of each place what the store and the parts do
pub record IsMade {T : Type 0} (S R : State ℕ) (rows : List (Option (DocumentPart T))) (parts : List (Option (Part T)))
    (told : List Location) : Type 0 where
  pub kept : IsDocumentKept R parts told
  pub shown : (p : Place) → shown_of (part_at parts (value_in R (pointer_in p))) ≡ shown_told S rows p
  pub same : (p q : Place) → (value_in R (pointer_in p) ≡ value_in R (pointer_in q))
      ↔ (value_in S (pointer_in p) ≡ value_in S (pointer_in q))
  pub added : (p : Place) (r : DocumentPart T) → row_told rows (value_in S (pointer_in p)) ≡ Some r
      → TellsLocation (site_told told (part_at parts (value_in R (pointer_in p)))) r.created_at

-- lists, and what was read of them
pub record AreRead {T : Type 0} (rows rows_read : List (Option (DocumentPart T))) (spots spots_read : List Spot)
    (counts counts_read keys keys_read : List ℕ) : Type 0 where
  pub rows_same : rows_read ≡ rows
  pub spots_same : spots_read ≡ spots
  pub counts_same : counts_read ≡ counts
  pub keys_same : keys_read ≡ keys

pub all_made : {T : Type 0} {S : State ℕ} → IsSound S → IsSimple S → slots S ≤ 4294967295
    → {rows rows_read : List (Option (DocumentPart T))} {spots spots_read : List Spot}
    → {counts counts_read keys keys_read : List ℕ}
    → AreRead rows rows_read spots spots_read counts counts_read keys keys_read
    → (sites sites_read : List ℕ) → sites_read ≡ sites → (parts : List (Option (Part T)))
    → AreSpots S spots → HaveParts rows_read spots → AreSpotsCounted spots (length spots) counts
    → AreUsed rows_read counts (length rows_read) → (all told : List Location) → told ≡ all
    → AreSited all rows_read sites (length rows_read) → ArePut rows counts_read sites_read keys parts (length rows)
    → (R : State ℕ) → IsSimple R
    → ((k : ℕ) (m : Spot) → slice_get spots_read k ≡ Some m → key_in R m.place.id ≡ Some (slice_index_or keys_read m.part 0))
    → ((id : GenerationalBoxId) → key_in S id ≡ None → key_in R id ≡ None) → IsMade S R rows parts told
all_made {T} {S} s old few {rows} {rows_read} {spots} {spots_read} {counts} {counts_read} {keys} {keys_read} same sites
    sites_read sites_same parts spots_are listed are used all told told_same sited put R simple led none =
    record {
      kept = built_kept spots spots_are rows listed_here R counts_read sites_read keys parts put led_here none s old simple
          few are_here used_here told sited_here;
      shown = built_shown spots spots_are rows listed_here R counts_read sites_read keys parts put led_here none;
      same = built_same spots spots_are rows listed_here R counts_read sites_read keys parts put led_here none;
      added = built_added spots spots_are rows listed_here R counts_read sites_read keys parts put led_here none told sited_here;
    }
  where
    listed_here : HaveParts rows spots
    listed_here = subst (λ xs. HaveParts xs spots) same.rows_same listed

    are_here : AreSpotsCounted spots (length spots) counts_read
    are_here = subst (λ xs. AreSpotsCounted spots (length spots) xs) (sym same.counts_same) are

    used_here : AreUsed rows counts_read (length rows)
    used_here = subst (λ xs. AreUsed xs counts_read (length xs)) same.rows_same
        (subst (λ xs. AreUsed rows_read xs (length rows_read)) (sym same.counts_same) used)

    sited_here : AreSited told rows sites_read (length rows)
    sited_here = subst (λ xs. AreSited told xs sites_read (length xs)) same.rows_same
        (subst (λ xs. AreSited told rows_read xs (length rows_read)) (sym sites_same)
        (subst (λ xs. AreSited xs rows_read sites (length rows_read)) (sym told_same) sited))

    led_here : (k : ℕ) (m : Spot) → slice_get spots k ≡ Some m → key_in R m.place.id ≡ Some (slice_index_or keys m.part 0)
    led_here k m is = subst (λ xs. key_in R m.place.id ≡ Some (slice_index_or xs m.part 0)) same.keys_same
        (led k m (subst (λ xs. slice_get xs k ≡ Some m) (sym same.spots_same) is))

-- ==== the parts of a document as a list

none_listed : {X : Type 0} (b : ℕ) (slots : List (Option X)) → entries_from b slots ≡ [] → (key : ℕ)
    → slice_index_or slots key None ≡ None
none_listed b [] is key = refl
none_listed b (None ∷ slots) is zero = refl
none_listed b (None ∷ slots) is (suc key) = none_listed (b + 1) slots is key
none_listed b (Some v ∷ slots) is key = cc

last_above : {X : Type 0} (b : ℕ) (slots : List (Option X)) (rest : List (ℕ × X)) (e : ℕ × X)
    → entries_from b slots ≡ rest ++ e ∷ [] → b ≤ e.0
last_above b [] [] e is = cc
last_above b [] (x ∷ rest) e is = cc
last_above b (None ∷ slots) rest e is = let it = last_above (b + 1) slots rest e is in omega (arith, it)
last_above b (Some v ∷ slots) [] e is = let head : (b, v) ≡ e = cc in omega (arith, ap (λ p. p.0) head)
last_above b (Some v ∷ slots) (x ∷ rest) e is =
    let tail : entries_from (b + 1) slots ≡ rest ++ e ∷ [] = cc in
    let it = last_above (b + 1) slots rest e tail in omega (arith, it)

-- there are no parts past the last entry
past_last : {X : Type 0} (b : ℕ) (slots : List (Option X)) (rest : List (ℕ × X)) (e : ℕ × X)
    → entries_from b slots ≡ rest ++ e ∷ [] → (key : ℕ) → e.0 < b + key → slice_index_or slots key None ≡ None
past_last b [] rest e is key lt = refl
past_last b (None ∷ slots) rest e is zero lt = refl
past_last b (None ∷ slots) rest e is (suc key) lt = past_last (b + 1) slots rest e is key (omega (arith, lt))
past_last b (Some v ∷ slots) [] e is zero lt =
    let head : (b, v) ≡ e = cc in absurd (omega (arith, lt, ap (λ p. p.0) head))
past_last b (Some v ∷ slots) [] e is (suc key) lt =
    let tail : entries_from (b + 1) slots ≡ [] = cc in none_listed (b + 1) slots tail key
past_last b (Some v ∷ slots) (x ∷ rest) e is zero lt =
    let tail : entries_from (b + 1) slots ≡ rest ++ e ∷ [] = cc in
    let it = last_above (b + 1) slots rest e tail in absurd (omega (arith, it, lt))
past_last b (Some v ∷ slots) (x ∷ rest) e is (suc key) lt =
    let tail : entries_from (b + 1) slots ≡ rest ++ e ∷ [] = cc in
    past_last (b + 1) slots rest e tail key (omega (arith, lt))

pub past_end : {X : Type 0} (slots : List (Option X)) (it rest : List (ℕ × X)) (e : ℕ × X) → it ≡ entries_from 0 slots
    → it ≡ rest ++ e ∷ [] → (key : ℕ) → e.0 + 1 ≤ key → slice_index_or slots key None ≡ None
past_end slots it rest e from is key le = past_last 0 slots rest e (sym from ∙ is) key (omega (arith, le))

pub no_end : {X : Type 0} (slots : List (Option X)) (it : List (ℕ × X)) → it ≡ entries_from 0 slots → it ≡ []
    → (key : ℕ) → slice_index_or slots key None ≡ None
no_end slots it from is key = none_listed 0 slots (sym from ∙ is) key

module _ {T : Type 0} (told : List Location) where
  pub laid_some : (o : Option (Part T)) (part : Part T) (r : DocumentPart T) → o ≡ Some part → r.content ≡ part.content
      → r.children ≡ part.children → slice_get told part.site ≡ Some r.created_at → IsLaid told o (Some r)
  laid_some o part r is content children here =
      subst (λ x. IsLaid told x (Some r)) (sym is) (r, refl, content, children, here)

  -- with one more row
  pub laid_more : (slots : List (Option (Part T))) (rows : List (Option (DocumentPart T))) (n : ℕ) (row : Option (DocumentPart T))
      → length rows ≡ n → ((k : ℕ) → k < n → IsLaid told (row_in slots k) (part_row rows k)) → IsLaid told (row_in slots n) row
      → (k : ℕ) → k < n + 1 → IsLaid told (row_in slots k) (part_row (rows ++ row ∷ []) k)
  laid_more slots rows n row long laid here k lt = ⊎_elim
      (λ same. subst (λ j. IsLaid told (row_in slots j) (part_row (rows ++ row ∷ []) j)) (sym same)
      (subst (IsLaid told (row_in slots n)) (sym (index_last rows row None n long)) here))
      (λ ne.
      let old : k < n = omega (arith, lt, ne) in
      subst (IsLaid told (row_in slots k)) (sym (index_before rows row None k (omega (arith, old, long)))) (laid k old))
      (key_cases by_number k n)

  module _ {S : State ℕ} {slots : List (Option (Part T))} (k : IsDocumentKept S slots told) (rows : List (Option (DocumentPart T)))
      (laid : (key : ℕ) → IsLaid told (row_in slots key) (part_row rows key)) where
    row_of : (key : ℕ) (part : Part T) → row_in slots key ≡ Some part → (r : DocumentPart T) × (part_row rows key ≡ Some r)
        × (r.content ≡ part.content) × (r.children ≡ part.children) × (slice_get told part.site ≡ Some r.created_at)
    row_of key part is = subst (λ o. IsLaid told o (part_row rows key)) is (laid key)

    row_shown : (o : Option (Part T)) (row : Option (DocumentPart T)) → IsLaid told o row → shown_row row ≡ shown_of o
    row_shown None row is = ap shown_row is
    row_shown (Some part) row is =
        ap shown_row is.1 ∙ (λ i. Some (record { content = is.2 i; children = (is.3 i).items }))

    pub laid_shown : (p : Place) → shown_told S rows p ≡ shown_of (part_at slots (value_in S (pointer_in p)))
    laid_shown p = by_option (key_in S (id_in p))
        (λ no. ap (λ o. shown_row (row_told rows o)) no ∙ sym (ap (λ o. shown_of (part_at slots o)) no))
        (λ key has. ap (λ o. shown_row (row_told rows o)) has ∙ (row_shown (row_in slots key) (part_row rows key) (laid key)
        ∙ sym (ap (λ o. shown_of (part_at slots o)) has)))

    row_added : (o : Option (Part T)) (row : Option (DocumentPart T)) (r : DocumentPart T) → IsLaid told o row → row ≡ Some r
        → site_told told o ≡ Some r.created_at
    row_added None row r is has = absurd (none-some r (sym is ∙ has))
    row_added (Some part) row r is has =
        is.4 ∙ ap (λ (d : DocumentPart T). Some d.created_at) (same_Some is.0 r (sym is.1 ∙ has))

    pub laid_added : (p : Place) (r : DocumentPart T) → row_told rows (value_in S (pointer_in p)) ≡ Some r
        → site_told told (part_at slots (value_in S (pointer_in p))) ≡ Some r.created_at
    laid_added p r is = by_option (key_in S (id_in p))
        (λ no. absurd (none-some r (sym (ap (row_told rows) no) ∙ is)))
        (λ key has. ap (λ o. site_told told (part_at slots o)) has
        ∙ row_added (row_in slots key) (part_row rows key) r (laid key) (sym (ap (row_told rows) has) ∙ is))

    pub laid_fits : AreParts S rows
    laid_fits = record {
      named = λ id key is.
          let part = led_part k id key is in ap is_some (row_of key part.0 part.1).1;
      used = λ key r is. by_option (row_in slots key)
          (λ no. absurd (none-some r (sym (subst (λ o. IsLaid told o (part_row rows key)) no (laid key)) ∙ is)))
          (λ part has. some_place key (places_of (row_in slots key))
          (subst (λ o. 0 < places_of o) (sym has) (subst (IsTold told) has (k.told key)).1) (k.counted key));
    }
      where
        some_place : (key count : ℕ) → 0 < count → AreExactly count (Leads S key) → (id : GenerationalBoxId) × Leads S key id
        some_place key zero lt c = absurd (omega (arith, lt))
        some_place key (suc count) lt c = (c.0, c.1)

-- those below an end are all
pub laid_whole : {T : Type 0} (told : List Location) (slots : List (Option (Part T))) (rows : List (Option (DocumentPart T)))
    (end : ℕ) → length rows ≡ end → ((key : ℕ) → key < end → IsLaid told (row_in slots key) (part_row rows key))
    → ((key : ℕ) → end ≤ key → row_in slots key ≡ None) → (key : ℕ) → IsLaid told (row_in slots key) (part_row rows key)
laid_whole told slots rows end long laid none key = ⊎_elim (λ lt. laid key lt)
    (λ le. subst (λ o. IsLaid told o (part_row rows key)) (sym (none key le)) (index_past rows None key (omega (arith, long, le))))
    (cases_lt key end)
