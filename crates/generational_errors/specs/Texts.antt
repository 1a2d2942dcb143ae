-- What locations and errors print, and how one error converts to another.
use Rattle.std.specs.Prelude.{ℕ, List, ◌∷◌, ◌++◌, Option, Some, codes, Bool, nat_eq}
use Rattle.std.specs.Cmp.Lexicographic.{pointwise}
use Rattle.std.specs.Ordering.{eq_of_both, on}
use Rattle.std.specs.List.{flat_map}
use Rattle.std.specs.Fmt.{decimal}
use Rattle.generational_errors.specs.declared.error.Location.{Location}
use Rattle.generational_errors.specs.declared.error.BorrowError.{BorrowError}
use Rattle.generational_errors.specs.declared.error.BorrowError.TheVariants as reads
use Rattle.generational_errors.specs.declared.error.BorrowMutError.{BorrowMutError}
use Rattle.generational_errors.specs.declared.error.BorrowMutError.TheVariants as writes
use Rattle.generational_errors.specs.declared.error.StoreError.{StoreError}
use Rattle.generational_errors.specs.declared.error.StoreError.TheVariants.{OutOfMemory}
use Rattle.generational_errors.specs.declared.error.StoreError.TheVariants.{NumbersExhausted}
use Rattle.generational_errors.specs.declared.error.StoreError.TheVariants.{UnknownOwner}
use Rattle.generational_errors.specs.declared.error.Refused.{Refused}
use Rattle.generational_errors.specs.declared.error.Refused.TheVariants as refused

-- file:line:column, in decimal
abbrev pub location_text : Location → List ℕ
location_text l = l.file.now ++ (58 ∷ (decimal l.line ++ (58 ∷ decimal l.column)))

-- equal texts of the file, equal lines and equal columns
abbrev pub same_location : Location → Location → Bool
same_location =
    eq_of_both
    (on (λ l. l.file.now) (pointwise nat_eq))
    (eq_of_both (on (λ l. l.line) nat_eq) (on (λ l. l.column) nat_eq))

abbrev pub same_locations : List Location → List Location → Bool
same_locations = pointwise same_location

abbrev pub dropped_text : Location → List ℕ
dropped_text l =
    codes "Failed to borrow because the value was dropped.created_at: " ++ location_text l

abbrev pub borrowed_mut_text : Location → List ℕ
borrowed_mut_text l =
    codes "Failed to borrow because the value was already borrowed mutably.borrowed_mut_at: "
    ++ location_text l

-- one tab and the location, for each location in order
abbrev pub borrowed_text : List Location → List ℕ
borrowed_text ls =
    codes "Failed to borrow mutably because the value was already borrowed immutably.borrowed_at:"
    ++ flat_map (λ l. 9 ∷ location_text l) ls

abbrev pub borrow_error_text : BorrowError → List ℕ
borrow_error_text (reads.Dropped e) = dropped_text e.created_at
borrow_error_text (reads.AlreadyBorrowedMut e) = borrowed_mut_text e.borrowed_mut_at

abbrev pub borrow_mut_error_text : BorrowMutError → List ℕ
borrow_mut_error_text (writes.Dropped e) = dropped_text e.created_at
borrow_mut_error_text (writes.AlreadyBorrowed e) = borrowed_text e
borrow_mut_error_text (writes.AlreadyBorrowedMut e) = borrowed_mut_text e.borrowed_mut_at

abbrev pub store_error_text : StoreError → List ℕ
store_error_text OutOfMemory = codes "out of memory"
store_error_text NumbersExhausted = codes "numbers exhausted"
store_error_text UnknownOwner = codes "unknown owner"

-- a read's error as a write's: the variant with the same name and the same contents
abbrev pub as_borrow_mut : BorrowError → BorrowMutError
as_borrow_mut (reads.Dropped e) = writes.Dropped e
as_borrow_mut (reads.AlreadyBorrowedMut e) = writes.AlreadyBorrowedMut e

-- an error of a read as one of a write or a removal
abbrev pub as_refused_mut : Refused BorrowError → Refused BorrowMutError
as_refused_mut (refused.Borrow e) = refused.Borrow (as_borrow_mut e)
as_refused_mut (refused.Store e) = refused.Store e

-- the text of the error that `Refused` holds
abbrev pub refused_output : {E : Type 0} → (E → Option (List ℕ)) → Refused E → Option (List ℕ)
refused_output shown (refused.Borrow e) = shown e
refused_output shown (refused.Store e) = Some (store_error_text e)
