-- What a live cell is.
use Rattle.std.specs.Prelude.{Bool, true, false, List, Option, None, Some}
use Rattle.generational_errors.specs.declared.error.Location.{Location}
use Rattle.generational_core.specs.declared.borrow.Borrow.{Borrow}
use Rattle.generational_core.specs.Names.{Name, is_name}

-- A value with its readers in the order in which they began, or a value that is lent to a writer. A
-- borrow is a ticket and the location passed in.
pub data Content (T : Type 0) : Type 0 where
  Here : (value : T) (readers : List Borrow) → Content T
  Lent : (writer : Borrow) → Content T

pub data Cell (T : Type 0) : Type 0 where  -- a live cell, with the location where it was made
  Value : (content : Content T) (created : Location) → Cell T
  Shared : (content : Content T) (created : Location) → Cell T
  Ref : (target : Name) (created : Location) → Cell T

module _ {T : Type 0} where
  abbrev pub content_of : Option (Cell T) → Option (Content T)  -- of a Value or a Shared cell
  content_of (Some (Value c l)) = Some c
  content_of (Some (Shared c l)) = Some c
  content_of _ = None

  abbrev pub refill : Content T → Cell T → Cell T  -- the cell with another content
  refill c (Value old l) = Value c l
  refill c (Shared old l) = Shared c l
  refill c ref = ref

  abbrev pub is_shared : Option (Cell T) → Bool  -- whether a cell is a Shared one
  is_shared (Some (Shared c l)) = true
  is_shared _ = false

  abbrev pub refers_to : Name → Option (Cell T) → Bool  -- whether it is a Ref to a name
  refers_to n (Some (Ref m l)) = is_name n m
  refers_to n _ = false

  abbrev pub location_of : Option (Cell T) → Option Location  -- where a cell was made
  location_of None = None
  location_of (Some (Value c l)) = Some l
  location_of (Some (Shared c l)) = Some l
  location_of (Some (Ref m l)) = Some l
