-- Tables of the names of files.
use Rattle.std.proofs.Common.{◌≡◌, ℕ, zero, suc, ◌+◌, ◌<◌, ◌≤◌, true, false, cond, List, [], ◌∷◌, ◌++◌, length, get_or, drop, take, refl, ap, sym, subst, ◌∙◌, add-one, arith, Option, Some, None, slice_get, inl, inr}
use Rattle.std.specs.Prelude.{nat_eq, IfSome, is_some, ◌||◌}
use Rattle.std.specs.Borrow.{Bor}
use Rattle.std.specs.Cmp.Lexicographic.{pointwise, bytes_decides}
use Rattle.std.specs.List.{AllByRecursion}
use Rattle.std.proofs.Math.Seq.{drop-cons}
use Rattle.std.proofs.lemmas.Bool.{cases_Bool}
use Rattle.std.proofs.lemmas.List.{append_assoc, map_push, take_more}
use Rattle.generational_errors.specs.declared.error.Location.{Location}
use Rattle.store_images.specs.declared.image.SlotImage.{SlotImage}
use Rattle.std.specs.Io.KnownBytes.{Appends as Adds}
use Rattle.saved_bytes.specs.Forms.{Appends, Form, items_form, spell}
use Rattle.saved_bytes.specs.Forms.Form.{Text}
use Rattle.saved_bytes.specs.Images.{IsSlotNamed, location_in}
use Rattle.saved_bytes.specs.FileNames.{is_listed, location_form, file_index, saved_location_form, texts, IsFound, IsFileKnown, IsRelocated}
use Rattle.saved_bytes.specs.Reading.{ArePairwise}
use Rattle.saved_bytes.proofs.Items.{appends_more}

-- ---- a search from the front

next : (names : List (Bor (List ℕ))) (i : ℕ) (d : Bor (List ℕ)) → i < length names → drop i names ≡ get_or names i d ∷ drop (i + 1) names
next names i d below = rw add-one (drop-cons names i d below)

index_on : (names : List (Bor (List ℕ))) (i : ℕ) (d : Bor (List ℕ)) (text : List ℕ) → i < length names
    → file_index (texts names) text ≡ i + file_index (texts (drop i names)) text
    → file_index (texts names) text ≡ i + cond (pointwise nat_eq (get_or names i d).now text) 0 (suc (file_index (texts (drop (i + 1) names)) text))
index_on names i d text below so_far =
    subst (λ (l : List (Bor (List ℕ))). file_index (texts names) text ≡ i + file_index (texts l) text) (next names i d below) so_far

pub index_more : (names : List (Bor (List ℕ))) (i : ℕ) (d : Bor (List ℕ)) (text : List ℕ) → i < length names
    → file_index (texts names) text ≡ i + file_index (texts (drop i names)) text → pointwise nat_eq (get_or names i d).now text ≡ false
    → file_index (texts names) text ≡ (i + 1) + file_index (texts (drop (i + 1) names)) text
index_more names i d text below so_far not = let on = rw not at (index_on names i d text below so_far) in omega arith

pub index_here : (names : List (Bor (List ℕ))) (i : ℕ) (d : Bor (List ℕ)) (text : List ℕ) → i < length names
    → file_index (texts names) text ≡ i + file_index (texts (drop i names)) text → pointwise nat_eq (get_or names i d).now text ≡ true
    → i ≡ file_index (texts names) text
index_here names i d text below so_far is = let on = rw is at (index_on names i d text below so_far) in omega arith

listed_on : (files : List (Bor (List ℕ))) (i : ℕ) (d : Bor (List ℕ)) (text : List ℕ) → i < length files
    → is_listed files text ≡ is_listed (drop i files) text
    → is_listed files text ≡ (pointwise nat_eq (get_or files i d).now text || is_listed (drop (i + 1) files) text)
listed_on files i d text below so_far =
    subst (λ (l : List (Bor (List ℕ))). is_listed files text ≡ is_listed l text) (next files i d below) so_far

-- ---- a table that grows

pub known_pushed : (names : List (List ℕ)) (text : List ℕ) → IsFileKnown (names ++ text ∷ []) text
known_pushed [] text = rw ((bytes_decides text text).1 refl) (omega arith)
known_pushed (name ∷ names) text = elim (cases_Bool (pointwise nat_eq name text)) [
  | inl is ↦ rw is (omega arith)
  | inr not ↦ let rest = known_pushed names text in rw not (omega arith)
]

pub known_kept : (names : List (List ℕ)) (more text : List ℕ) → IsFileKnown names text → IsFileKnown (names ++ more ∷ []) text
known_kept [] more text known = absurd (omega arith)
known_kept (name ∷ names) more text known = elim (cases_Bool (pointwise nat_eq name text)) [
  | inl is ↦ rw is (omega arith)
  | inr not ↦ let k = rw not at known in let rest = known_kept names more text (omega arith) in rw not (omega arith)
]

some_kept : {A : Type 0} (P Q : A → Type 0) (o : Option A) → ((x : A) → P x → Q x) → IfSome o P → IfSome o Q
some_kept P Q None f h = h
some_kept P Q (Some x) f h = f x h

pub named_kept : {T : Type 0} (old new : List (List ℕ)) (slots : List (SlotImage T)) → ((text : List ℕ) → IsFileKnown old text → IsFileKnown new text)
    → AllByRecursion (IsSlotNamed old) slots → AllByRecursion (IsSlotNamed new) slots
named_kept old new [] kept all = all
named_kept old new (s ∷ slots) kept all = (
  some_kept (λ l. IsFileKnown old l.file.now) (λ l. IsFileKnown new l.file.now) (location_in s.cell) (λ l. kept l.file.now) all.0,
  named_kept old new slots kept all.1,
)

pub all_pushed : {A : Type 0} (P : A → Type 0) (xs : List A) (x : A) → AllByRecursion P xs → P x → AllByRecursion P (xs ++ x ∷ [])
all_pushed P [] x all p = (p, all)
all_pushed P (y ∷ xs) x all p = (all.0, all_pushed P xs x all.1 p)

pub all_any_names : (names : List (List ℕ)) → AllByRecursion (λ name. Unit {0}) names
all_any_names [] = tt
all_any_names (name ∷ names) = (tt, all_any_names names)

-- ---- what is found in a table

pub found_is : (files : List (Bor (List ℕ))) (p : Option (Bor (List ℕ))) (name bytes : List ℕ) → Text name ≡ Text bytes
    → is_some p ≡ is_listed files name → IfSome p (λ file. file.now ≡ name) → IsFound files bytes p
found_is files None name bytes same listed is = let e : name ≡ bytes = cc in subst (λ (t : List ℕ). is_listed files t ≡ false) e (sym listed)
found_is files (Some file) name bytes same listed is =
    let e : name ≡ bytes = cc in
    (subst (λ (t : List ℕ). is_listed files t ≡ true) e (sym listed), is ∙ e)

pub found_there : (files : List (Bor (List ℕ))) (names : List (List ℕ)) (found_files : List (Option (Bor (List ℕ)))) (text : List ℕ)
    → ArePairwise (IsFound files) names found_files → IsFileKnown names text
    → (p : Option (Bor (List ℕ))) × (slice_get found_files (file_index names text) ≡ Some p) × IsFound files text p
found_there files [] found_files text pairs known = absurd (omega arith)
found_there files (name ∷ names) [] text pairs known = absurd pairs
found_there files (name ∷ names) (p ∷ found_files) text pairs known = elim (cases_Bool (pointwise nat_eq name text)) [
  | inl is ↦ rw is (p, refl, subst (λ (t : List ℕ). IsFound files t p) ((bytes_decides name text).0 is) pairs.0)
  | inr not ↦ let k = rw not at known in rw not (found_there files names found_files text pairs.1 (omega arith))
]

-- ---- a location of a table

-- what a table has at the index that a location was saved with
pub location_there : (files : List (Bor (List ℕ))) (names : List (List ℕ)) (found_files : List (Option (Bor (List ℕ)))) (saved : ℕ × (ℕ × ℕ))
    (l : Location) → ArePairwise (IsFound files) names found_files → IsFileKnown names l.file.now → saved_location_form saved ≡ location_form names l
    → (p : Option (Bor (List ℕ))) × (slice_get found_files saved.0 ≡ Some p) × IsFound files l.file.now p × (saved.1.0 ≡ l.line) × (saved.1.1 ≡ l.column)
location_there files names found_files saved l pairs known same =
    let there = found_there files names found_files l.file.now pairs known in
    let number : saved.0 ≡ file_index names l.file.now = cc in
    (there.0, subst (λ (k : ℕ). slice_get found_files k ≡ Some there.0) (sym number) there.1, there.2, cc, cc)

pub restored_here : (files : List (Bor (List ℕ))) (here l : Location) → IsFound files l.file.now None → IsRelocated files here l here
restored_here files here l not = rw not refl

pub restored_there : (files : List (Bor (List ℕ))) (here l m : Location) (file : Bor (List ℕ)) → IsFound files l.file.now (Some file)
    → m.file.now ≡ file.now → m.line ≡ l.line → m.column ≡ l.column → IsRelocated files here l m
restored_there files here l m file is same line column = rw is.0 (same ∙ is.1, line, column)

-- ---- elements of a list

pub there_long : {A : Type 0} (xs : List A) (i : ℕ) (x : A) → slice_get xs i ≡ Some x → i < length xs
there_long [] i x e = absurd cc
there_long (y ∷ xs) zero x e = omega arith
there_long (y ∷ xs) (suc i) x e = let rest = there_long xs i x e in omega arith

pub there_is : {A : Type 0} (xs : List A) (i : ℕ) (d x : A) → slice_get xs i ≡ Some x → get_or xs i d ≡ x
there_is [] i d x e = absurd cc
there_is (y ∷ xs) zero d x e = cc
there_is (y ∷ xs) (suc i) d x e = there_is xs i d x e

pub index_most : (names : List (List ℕ)) (text : List ℕ) → file_index names text ≤ length names
index_most [] text = omega arith
index_most (name ∷ names) text = let rest = index_most names text in elim (cases_Bool (pointwise nat_eq name text)) [
  | inl is ↦ rw is (omega arith)
  | inr not ↦ rw not (omega arith)
]

-- another name is written after the others
pub text_more : (names : List (Bor (List ℕ))) (i : ℕ) (d : Bor (List ℕ)) (old mid new : List ℕ) → i < length names
    → Appends (items_form Text (texts (take i names))) old mid → Appends (Text (get_or names i d).now) mid new
    → Appends (items_form Text (texts (take (i + 1) names))) old new
text_more names i d old mid new below before one =
    let front = texts (take i names) in
    let more : texts (take (i + 1) names) ≡ front ++ (get_or names i d).now ∷ [] =
    ap texts (take_more names i d below) ∙ map_push (λ f. f.now) (take i names) (get_or names i d) in
    subst (λ (ts : List (List ℕ)). Appends (items_form Text ts) old new) (sym more)
    (appends_more Text front (get_or names i d).now old mid new before one)

-- one form after the other
pub appends_both : (f g : Form) (a b c : List ℕ) → Appends f a b → Appends g b c → Appends (Form.Both f g) a c
appends_both f g a b c p q = ((p.0, q.0), λ rest. q.1 rest ∙ p.1 (spell g rest))

-- ---- what is written

pub adds_both : (x y z : Option (List ℕ)) (a b : List ℕ) → Adds x y a → Adds y z b → Adds x z (a ++ b)
adds_both None y z a b p q = tt
adds_both (Some xs) None z a b p q = absurd p
adds_both (Some xs) (Some ys) None a b p q = absurd q
adds_both (Some xs) (Some ys) (Some zs) a b p q = q ∙ (ap (λ (l : List ℕ). l ++ b) p ∙ append_assoc xs a b)
