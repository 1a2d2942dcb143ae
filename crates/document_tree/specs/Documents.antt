-- The model of a document: which part each place refers to, and its content and children.
use Rattle.std.specs.Prelude.{◌≡◌, ◌≢◌, ◌++◌, ◌∷◌, ℕ, Bool, [], List, Option, None, Some, filter, is_some}
use Rattle.std.specs.Prelude.{slice_get, slice_index_or}
use Rattle.std.specs.Borrow.{MutBor}
use Rattle.std.specs.Fn.{FnOnceReturnsAtMut, Once}
use Rattle.generational_core.specs.Boxes.{name_of}
use Rattle.generational_core.specs.Seeing.{value_in}
use Rattle.generational_core.specs.State.{State, IsGiven}
use Rattle.generational_errors.specs.declared.error.Location.{Location}
use Rattle.handles.specs.Handles.{IsOther, pointer_in}
use Rattle.handles.specs.Sites.{told_at}
use Rattle.handles.specs.declared.handle.Handle.{Handle}
use Rattle.location_list.specs.Locations.{is_among}
use Rattle.document_tree.specs.declared.part.Part.{Part}
use Rattle.document_tree.specs.declared.place.PlaceKind.{PlaceKind}

abbrev pub Place : Type 0
Place = Handle ℕ PlaceKind

-- the state of the store, in which each place has the key of its part; the parts by their keys; the key of
-- the next part; and the locations at which parts were added
pub record DocumentState (T : Type 0) : Type 0 where
  pub state : State ℕ
  pub parts : List (Option (Part T))
  pub next : ℕ
  pub sites : List Location

-- what a place has: the content of its part, and that part's children
pub record Shown (T : Type 0) : Type 0 where
  pub content : T
  pub children : List Place

module _ {T : Type 0} where
  abbrev pub shown_by : Part T → Option (Shown T)
  shown_by part = Some (record { content = part.content; children = part.children.items })

  abbrev pub shown_of : Option (Part T) → Option (Shown T)
  shown_of None = None
  shown_of (Some part) = shown_by part

  -- the part that a place refers to, by its key
  abbrev pub part_in : DocumentState T → Place → Option ℕ
  part_in D p = value_in D.state (pointer_in p)

  -- the part under a key, if it is one
  abbrev pub part_at : List (Option (Part T)) → Option ℕ → Option (Part T)
  part_at parts None = None
  part_at parts (Some key) = slice_index_or parts key None

  -- what a place has in a document, or None once it was removed
  abbrev pub shown_in : DocumentState T → Place → Option (Shown T)
  shown_in D p = shown_of (part_at D.parts (part_in D p))

  -- where a place's part was added at first, by the document's locations: None for another document's
  -- place
  abbrev pub created_at : DocumentState T → Place → Option Location
  created_at D p = told_at D.state.number D.sites p

  -- whether a part was added at a location with the same letters, line and column
  abbrev pub is_site : DocumentState T → Location → Bool
  is_site D here = is_among D.sites here

  -- the document keeps each location of a place's part
  abbrev pub KeepsPartLocations : DocumentState T → DocumentState T → Type 0
  KeepsPartLocations old new =
      (p : Place) (l : Location) → created_at old p ≡ Some l → created_at new p ≡ Some l

  -- where the part was added that a place refers to now
  abbrev pub site_told : List Location → Option (Part T) → Option Location
  site_told sites None = None
  site_told sites (Some part) = slice_get sites part.site

  abbrev pub added_in : DocumentState T → Place → Option Location
  added_in D p = site_told D.sites (part_at D.parts (part_in D p))

  -- a place's content, and its children
  abbrev pub content_shown : Option (Shown T) → Option T
  content_shown None = None
  content_shown (Some shown) = Some shown.content

  abbrev pub children_shown : Option (Shown T) → Option (List Place)
  children_shown None = None
  children_shown (Some shown) = Some shown.children

  -- the same with another content, and with another child
  abbrev pub with_new_content : T → Option (Shown T) → Option (Shown T)
  with_new_content c None = None
  with_new_content c (Some shown) = Some (record shown { content = c })

  abbrev pub with_child : Place → Option (Shown T) → Option (Shown T)
  with_child p None = None
  with_child p (Some shown) = Some (record shown { children = shown.children ++ p ∷ [] })

  -- the same with other children, as a function of the old ones
  abbrev pub with_children : (List Place → List Place) → Option (Shown T) → Option (Shown T)
  with_children f None = None
  with_children f (Some shown) = Some (record shown { children = f shown.children })

  -- a call of a closure on a part's content, with its result and the content afterwards
  abbrev pub ChangesContent : {F R : Type 0} → Once F (MutBor T × Unit {0}) (R × (MutBor T × Unit {0}))
      → F → Part T → R → Part T → Type 0
  ChangesContent g f old r new = (changed : T) × FnOnceReturnsAtMut g f old.content r changed
      × (shown_by new ≡ with_new_content changed (shown_by old))

  -- a list of places without those that refer to no part
  abbrev pub live_among : DocumentState T → List Place → List Place
  live_among D list = filter (λ p. is_some (part_in D p)) list

  -- a place that the document has issued
  abbrev pub WasPlaced : DocumentState T → Place → Type 0
  WasPlaced D p = IsGiven D.state (name_of (pointer_in p))

  -- from D to E a place is unchanged: it refers to the same part, and has the same content and children
  pub record Leaves (D : DocumentState T) (p : Place) (E : DocumentState T) : Type 0 where
    pub part : part_in E p ≡ part_in D p
    pub shown : shown_in E p ≡ shown_in D p

  -- from D to E the part of a place changes, and all else is unchanged
  pub record ChangesPart (D : DocumentState T) (p : Place) (shown : Option (Shown T)) (E : DocumentState T)
      : Type 0 where
    pub here : (q : Place) → part_in D q ≡ part_in D p → shown_in E q ≡ shown
    pub others : (q : Place) → part_in D q ≢ part_in D p → Leaves D q E
    pub parts : (q : Place) → part_in E q ≡ part_in D q
    pub kept : (q : Place) → WasPlaced D q → WasPlaced E q

  -- no other place refers to a place's part
  abbrev pub IsOnlyPlace : DocumentState T → Place → Type 0
  IsOnlyPlace D p = (q : Place) → IsOther p q → part_in D q ≢ part_in D p

  -- from D to E a place's part was dropped
  abbrev pub EndsPart : DocumentState T → Place → DocumentState T → Type 0
  EndsPart D p E = (key : ℕ) → part_in D p ≡ Some key → part_at E.parts (Some key) ≡ None

  -- the first of two places that was removed, by what the first has
  abbrev pub first_gone : Option (Shown T) → Place → Place → Place
  first_gone None p q = p
  first_gone (Some shown) p q = q
