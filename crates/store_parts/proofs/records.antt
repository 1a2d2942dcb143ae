-- Records of owners: in few bytes, as a map, and as rows.
pub mod lists
use Rattle.std.proofs.Common.{is_ok, map as list_map, OnOk}
use Rattle.std.proofs.lemmas.List.{drop-append-le, length-drop, nil_from_length, take-append-le}
use Rattle.std.proofs.lemmas.Option.{slice_get-map}
use Rattle.store_parts.specs.PackedOwners.{bare_record, bare_records, packed_names}
use Rattle.store_parts.specs.PackedOwners.{packed_names_of, unpack_record, unpack_records}
use Rattle.store_parts.specs.declared.owners.packed.PackedRecord.{PackedRecord}
use Rattle.std.specs.FinMap as map
use Rattle.std.specs.FinSet as set
unfoldable pub use lists.*

-- ==== owners' records in few bytes: another position, and what doesn't rest on the room for names

-- ---- another position

names_more : (records : List (Option PackedRecord)) (p : Option PackedRecord)
    → packed_names_of (records ++ p ∷ []) ≡ packed_names_of records + packed_names p
names_more [] p = omega arith
names_more (q ∷ records) p = let rest = names_more records p in omega arith

unpack_more : (names more : List CellName) (p : Option PackedRecord) → packed_names p ≤ length names
    → unpack_record (names ++ more) p ≡ unpack_record names p
unpack_more names more p within = grind (arith, take-append-le)

unpack_snoc : (names more : List CellName) (records : List (Option PackedRecord))
    (p : Option PackedRecord) → packed_names_of records ≡ length names
    → unpack_records (names ++ more) (records ++ p ∷ [])
    ≡ unpack_records names records ++ unpack_record more p ∷ []
unpack_snoc names more (q ∷ records) p all =
    let left = length-drop (packed_names q) names in let cut = drop-append-le (packed_names q) names more in
    grind (arith, unpack_more names more q, unpack_snoc (drop (packed_names q) names) more records p)
unpack_snoc [] more [] p all = refl
unpack_snoc (n ∷ names) more [] p all = absurd (omega arith)

pub packed_more : (names more after : List CellName) (records longer : List (Option PackedRecord))
    (p : Option PackedRecord) (q : MaybeRecord) → packed_names_of records ≡ length names
    → longer ≡ records ++ p ∷ [] → after ≡ names ++ more → packed_names p ≡ length more
    → unpack_record more p ≡ q
    → (unpack_records after longer ≡ unpack_records names records ++ q ∷ [])
    × (packed_names_of longer ≡ length after)
packed_more names more after records longer p q all pushed grown many is = (
  (λ i. unpack_records (grown i) (pushed i)) ∙ unpack_snoc names more records p all
      ∙ ap (λ q. unpack_records names records ++ q ∷ []) is,
  ap packed_names_of pushed
      ∙ omega (arith, names_more records p, ap length grown, length-append names more),
)

pub on_ok_if : {A E X : Type 0} (r : Result A E) (after x y : X)
    → after ≡ (if is_ok r then x else y) → OnOk r (after ≡ x)
on_ok_if (Ok a) after x y is = is
on_ok_if (Err e) after x y is = tt

-- the position of a record's list
pub packed_record : (key count rooms : ℕ) (boxes : List CellName) (n : ℕ) (r : KeyedOwnership)
    → n ≡ length boxes
    → record { key = key; ownership = record { names = list_map name_of_cell boxes; count = count }; rooms = rooms } ≡ r
    → unpack_record boxes (Some (record { key = key; count = count; names = n })) ≡ bare_record (Some r)
packed_record key count rooms boxes n r many view =
    rw (take_all n boxes (omega (arith, many))) (ap (λ (r : KeyedOwnership). bare_record (Some r)) view)

-- ---- whatever room there is

record_bare : (key : ℕ) (o : Option MaybeRecord) → record_at key (option_map bare_record o) ≡ record_at key o
record_bare key o = grind arith

module _ (ps : List MaybeRecord) where
  has_bare : (key i : ℕ)
      → record_at key (slice_get (bare_records ps) i) ≡ record_at key (slice_get ps i)
  has_bare key i = ap (record_at key) (slice_get-map bare_record ps i) ∙ record_bare key (slice_get ps i)

  pub apart_bare : HasDistinctKeys ps → HasDistinctKeys (bare_records ps)
  apart_bare apart =
      record { one = λ key i j first second. grind (arith, apart.one key i j, has_bare key) }

  pub apart_full : HasDistinctKeys (bare_records ps) → HasDistinctKeys ps
  apart_full apart =
      record { one = λ key i j first second. grind (arith, apart.one key i j, has_bare key) }

keyed_bare : (ps : List MaybeRecord) → keyed_ownerships (bare_records ps) ≡ keyed_ownerships ps
keyed_bare [] = refl
keyed_bare (p ∷ ps) = grind (arith, keyed_bare ps)

pub owners_bare : (ps : List MaybeRecord) → owners_of (bare_records ps) ≡ owners_of ps
unfolding owners_of
owners_bare ps = ap map.from_entries (keyed_bare ps)

-- no positions have no records
pub no_owners : map.entries (owners_of []) ≡ []
unfolding owners_of
no_owners =
    nil_from_length (map.entries map.empty)
    (sym (map.len-entries map.empty) ∙ map.len-empty nat_cmp Ownership)

-- ==== the map that records represent, and what is written to them

-- ---- what is under a key

-- the first record under a key
abbrev find_in : ℕ → List MaybeRecord → Option Ownership
find_in q [] = None
find_in q (x ∷ xs) = option_or (record_in q x) (find_in q xs)

find_is : (q : ℕ) (xs : List MaybeRecord) → map.find nat_cmp q (keyed_ownerships xs) ≡ find_in q xs
find_is q [] = refl
find_is q (None ∷ xs) = find_is q xs
find_is q (Some r ∷ xs) = rw (number_test q r.key, find_is q xs) (grind arith)

-- what the machine's map has under a key
get_first : (xs : List MaybeRecord) (q : ℕ) → map.get (owners_of xs) q ≡ find_in q xs
unfolding owners_of
get_first xs q = map.get-from_entries nat_cmp_total (keyed_ownerships xs) q ∙ find_is q xs

-- positions that have the same under a key have the same first
find_same : (xs ys : List MaybeRecord) (q : ℕ)
    → ((i : ℕ) → record_at q (slice_get ys i) ≡ record_at q (slice_get xs i))
    → find_in q ys ≡ find_in q xs
find_same [] [] q same = refl
find_same [] (y ∷ ys) q same = rw (same 0) (find_same [] ys q (λ i. same (suc i)))
find_same (x ∷ xs) [] q same = rw (← same 0) (find_same xs [] q (λ i. same (suc i)))
find_same (x ∷ xs) (y ∷ ys) q same = rw (same 0, find_same xs ys q (λ i. same (suc i))) refl

-- a record that alone is under its key
find_at : (xs : List MaybeRecord) (q i : ℕ) → ((j : ℕ) → HasRecord q (slice_get xs j) → j ≡ i)
    → find_in q xs ≡ record_at q (slice_get xs i)
find_at [] q i alone = refl
find_at (x ∷ xs) q zero alone =
    rw (find_same [] xs q (λ j. grind (arith, alone (suc j)))) (grind arith)
find_at (x ∷ xs) q (suc i) alone =
    rw (find_at xs q i (λ j has. omega (arith, alone (suc j) has))) (grind (arith, alone 0))

pub get_one : {xs : List MaybeRecord} → HasDistinctKeys xs → (q i : ℕ) (h : Ownership)
    → record_at q (slice_get xs i) ≡ Some h → map.get (owners_of xs) q ≡ Some h
get_one {xs} apart q i h is =
    get_first xs q ∙ find_at xs q i (λ j has. apart.one q j i has (rw is refl)) ∙ is

pub get_none : (xs : List MaybeRecord) (q : ℕ) → ((i : ℕ) → record_at q (slice_get xs i) ≡ None)
    → map.get (owners_of xs) q ≡ None
get_none xs q none = get_first xs q ∙ find_same [] xs q none

-- a record has its key
pub stands_at : (o : Option MaybeRecord) (r : KeyedOwnership) (q : ℕ) → o ≡ Some (Some r) → r.key ≡ q
    → HasRecord q o
stands_at o r q is key = rw (is, eq-eqb q r.key (sym key)) refl

pub standing : (q : ℕ) (o : Option MaybeRecord) → HasRecord q o → (r : KeyedOwnership)
    × (o ≡ Some (Some r)) × (q ≡ r.key) × (record_at q o ≡ Some r.ownership)
standing q (Some (Some r)) has = (r, refl, grind (arith, nat_tests), grind (arith, nat_tests))
standing q _ has = absurd cc

-- ---- what is written

-- the records with v under a key
abbrev put_in : Owners → ℕ → Option Ownership → Owners
put_in S k None = map.remove S k
put_in S k (Some h) = map.insert S k h

get_put : (S : Owners) (k : ℕ) (v : Option Ownership) (q : ℕ)
    → map.get (put_in S k v) q ≡ cond (nat_eq q k) v (map.get S q)
get_put S k None q = rw (← number_test q k) (map.get-remove nat_cmp_total S k q)
get_put S k (Some h) q = rw (← number_test q k) (map.get-insert nat_cmp_total S k h q)

-- what a write leaves
pub record Leaves (v : set.FinSet nat_cmp) (rooms : ℕ) (ys : List MaybeRecord) (S : Owners) : Type 0 where
  pub owners : owners_of ys ≡ S
  pub sound : AreSoundRecords v rooms ys

module _ {vacant : set.FinSet nat_cmp} {rooms : ℕ} {xs : List MaybeRecord}
    (sound : AreSoundRecords vacant rooms xs) where
  -- a write to a position which has no other key before and after, and whose key is at no other position
  writes : {ys : List MaybeRecord} {k i : ℕ} {x : MaybeRecord} {left : set.FinSet nat_cmp}
      (v : Option Ownership)
      → IsWritten xs ys i x → record_in k x ≡ v
      → ((q : ℕ) → is_some (record_in q x) ≡ true → q ≡ k)
      → ((q : ℕ) → HasRecord q (slice_get xs i) → q ≡ k)
      → ((j : ℕ) → HasRecord k (slice_get xs j) → j ≡ i)
      → ((j : ℕ) → set.contains left j ≡ cond (nat_eq j i) (is_vacant (Some x))
      (set.contains vacant j))
      → (more : ℕ) → length ys ≤ more → Leaves left more ys (put_in (owners_of xs) k v)
  writes {ys} {k} {i} {x} v w is own old alone pooled more roomy = record {
    owners = map.same_map nat_cmp_total map.nat_cmp-IsAntisymmetric _ _ (λ q.
        let here : find_in k ys ≡ v =
        find_at ys k i (λ j. let at = w.at j in grind (arith, nat_tests, alone j))
        ∙ rw (w.at i, eq-eqb i i refl) is in
        let others = λ (ne : q ≢ k). find_same xs ys q (λ j. let at = w.at j in
        grind (arith, nat_tests, own q, old q)) in
        rw (get_put (owners_of xs) k v q, get_first xs q, get_first ys q)
        (grind (arith, nat_tests, here, others)));
    sound = record {
      pooled = λ j. rw (pooled j, w.at j) (grind (arith, sound.pooled j));
      roomy = roomy;
      apart = record {
        one = λ q a b ha hb. let at_a = w.at a in let at_b = w.at b in
            grind (arith, nat_tests, sound.apart.one q a b, alone a, alone b, own q);
      };
    };
  }

  -- a record under a key that has none
  module _ {k : ℕ} {h : Ownership} (r : KeyedOwnership) (is : r.key ≡ k) (held : r.ownership ≡ h)
      (absent : map.get (owners_of xs) k ≡ None) where
    alone : {i : ℕ} (j : ℕ) → HasRecord k (slice_get xs j) → j ≡ i
    alone j has = let one = get_one sound.apart k j in grind arith

    -- at a vacant position
    pub filled : (i : ℕ) → set.contains vacant i ≡ true → Leaves (set.remove vacant i) rooms
        (slice_set xs i (Some r)) (map.insert (owners_of xs) k h)
    filled i member =
        let was : slice_get xs i ≡ Some None = grind (arith, sound.pooled i) in
        writes (Some h) (set_written xs i (Some r) None was) (grind (arith, nat_tests))
        (λ q has. grind (arith, nat_tests)) (λ q has. grind arith) alone
        (contains-remove_at vacant i) rooms (rw (length-set xs i (Some r)) sound.roomy)

    -- at a new position
    pub added : (more : ℕ) → length xs < more
        → Leaves vacant more (xs ++ Some r ∷ []) (map.insert (owners_of xs) k h)
    added more room =
        let past = slice_get_past xs (length xs) (omega arith) in
        writes (Some h) (push_written xs (Some r)) (grind (arith, nat_tests))
        (λ q has. grind (arith, nat_tests)) (λ q has. grind arith) alone
        (contains_own vacant (length xs) (sound.pooled (length xs) ∙ ap is_vacant past)) more
        (omega (arith, length-append xs (Some r ∷ [])))

  -- the position of the record under a key
  module _ (k i : ℕ) (has : HasRecord k (slice_get xs i)) where
    abbrev there : (r : KeyedOwnership)
        × (slice_get xs i ≡ Some (Some r)) × (k ≡ r.key)
        × (record_at k (slice_get xs i) ≡ Some r.ownership)
    there = standing k (slice_get xs i) has

    pub record_within : i < length xs
    record_within = slice_get_within xs i (Some there.0) there.1

    pub get_there : map.get (owners_of xs) k ≡ Some there.0.ownership
    get_there = get_one sound.apart k i there.0.ownership there.3

    old : (q : ℕ) → HasRecord q (slice_get xs i) → q ≡ k
    old q other = (standing q (slice_get xs i) other).2 ∙ grind (arith, there)

    -- what is read there is its record
    module _ (x : MaybeRecord) (read : x ≡ get_or xs i x) where
      pub value_there : slice_get xs i ≡ Some x
      value_there = slice_get_read xs (length xs) i x refl record_within read

      pub read_there : x ≡ Some there.0
      read_there = cc (value_there, there.1)

      pub key_there : (r : KeyedOwnership) → x ≡ Some r → r.key ≡ k
      key_there r is = cc (read_there, is, there.2)

    -- a change that keeps its key
    module _ (g : KeyedOwnership → KeyedOwnership) (same : (g there.0).key ≡ k) where
      w_changed : IsWritten xs (change_record xs i g) i (Some (g there.0))
      w_changed = rw (ap (change_record_if xs i g) there.1)
          (set_written xs i (Some (g there.0)) (Some there.0) there.1)

      written : Leaves vacant rooms (change_record xs i g)
          (map.insert (owners_of xs) k (g there.0).ownership)
      written = writes (Some (g there.0).ownership) w_changed
          (rw (eq-eqb k (g there.0).key (sym same)) refl)
          (λ q has. grind (arith, nat_tests)) old (λ j hj. sound.apart.one k j i hj has)
          (contains_own vacant i (sound.pooled i ∙ ap is_vacant there.1)) rooms
          (rw (ap (change_record_if xs i g) there.1, length-set xs i (Some (g there.0)))
          sound.roomy)

    pub changed : (f : Ownership → Ownership) → Leaves vacant rooms (change_ownership xs i f)
        (change (owners_of xs) k f)
    changed f = rw (changed_there by_number (owners_of xs) k f there.0.ownership get_there)
        (written (with_ownership f) (sym there.2))

    -- room for more names changes no record
    module _ (more : ℕ) where
      pub roomed : Leaves vacant rooms (change_record xs i (with_rooms more)) (owners_of xs)
      roomed = let w = written (with_rooms more) (sym there.2) in record {
        owners = w.owners ∙ insert_there by_number (owners_of xs) k there.0.ownership get_there;
        sound = w.sound;
      }

      pub roomed_there : HasRecord k (slice_get (change_record xs i (with_rooms more)) i)
      roomed_there =
          let at = (w_changed (with_rooms more) (sym there.2)).at i in
          rw (at, eq-eqb i i refl, eq-eqb k there.0.key there.2)

    pub taken : Leaves (set.insert vacant i) rooms (slice_set xs i None)
        (map.remove (owners_of xs) k)
    taken = writes None (set_written xs i None (Some there.0) there.1) refl
        (λ q no. absurd (false≢true no)) old
        (λ j hj. sound.apart.one k j i hj has) (contains-insert_at vacant i) rooms
        (rw (length-set xs i None) sound.roomy)

-- ---- no records

pub no_places : (rooms : ℕ) → Leaves set.empty rooms [] map.empty
unfolding owners_of
no_places rooms = record {
  owners = refl;
  sound = record {
    pooled = λ k. set.contains-empty nat_cmp k;
    roomy = omega arith;
    apart = record { one = λ key i j hi hj. absurd cc };
  };
}

-- if all positions are vacant, the map is empty, and otherwise it isn't
pub owners_vacant : (xs : List MaybeRecord) → ((i : ℕ) → i < length xs → slice_get xs i ≡ Some None)
    → owners_of xs ≡ map.empty
owners_vacant xs vacant = map.same_map nat_cmp_total map.nat_cmp-IsAntisymmetric _ _ (λ q.
    get_none xs q (none q) ∙ sym (map.get-empty nat_cmp q))
  where
    none : (q i : ℕ) → record_at q (slice_get xs i) ≡ None
    none q i = grind (arith, vacant i, slice_get_past)

find_some : (xs : List MaybeRecord) (q i : ℕ) → HasRecord q (slice_get xs i)
    → is_some (find_in q xs) ≡ true
find_some [] q i has = absurd cc
find_some (x ∷ xs) q zero has = grind arith
find_some (x ∷ xs) q (suc i) has = grind (arith, find_some xs q i has)

pub not_empty : (xs : List MaybeRecord) (i : ℕ) (x : MaybeRecord) → slice_get xs i ≡ Some x
    → is_some x ≡ true → owners_of xs ≡ map.empty → ⊥
not_empty xs i None is some empty = cc
not_empty xs i (Some r) is some empty =
    let found = find_some xs r.key i (rw (is, eq-eqb r.key r.key refl) refl) in
    cc (get_first xs r.key, ap (λ m. map.get m r.key) empty, map.get-empty nat_cmp r.key, found)

-- vacant positions that come first, and one more
pub vacant_through : (xs : List MaybeRecord) (n : ℕ) (x : MaybeRecord)
    → ((i : ℕ) → i < n → slice_get xs i ≡ Some None) → slice_get xs n ≡ Some x
    → is_some x ≡ false → (i : ℕ) → i < n + 1 → slice_get xs i ≡ Some None
vacant_through xs n x before there vacant i within = grind (arith, before i)

-- a record is under its key
pub held_record : (P : KeyedOwnership → Type 0) (o : Option MaybeRecord) → IsFilledWith P o
    → HasRecord (owner_key_in o) o
held_record P (Some (Some r)) held = rw (eq-eqb r.key r.key refl) refl
held_record P _ held = absurd held

-- ---- the record of an owner of the store

module _ (number : ℕ) (o : OwnerName) (is : o.store ≡ number) (xs : List MaybeRecord) where
  pub record_missing : ((i : ℕ) → record_at o.key (slice_get xs i) ≡ None)
      → record_of number (owners_of xs) o ≡ None
  record_missing none = rw (eq-eqb o.store number is) (get_none xs o.key none)

  module _ {vacant : set.FinSet nat_cmp} {rooms : ℕ} (sound : AreSoundRecords vacant rooms xs)
      (i : ℕ) (has : HasRecord o.key (slice_get xs i)) where
    pub record_found : (x : MaybeRecord) → x ≡ get_or xs i x
        → option_map (λ r. r.ownership) x ≡ record_of number (owners_of xs) o
    record_found x read =
        rw (read_there sound o.key i has x read, eq-eqb o.store number is, get_there sound o.key i has)

-- another name on the list of an owner for which there is room at a position
pub listed_owners : {vacant : set.FinSet nat_cmp} {rooms : ℕ} {xs : List MaybeRecord}
    → AreSoundRecords vacant rooms xs → (o : Option OwnerName) (i : ℕ) (n : Name)
    → IsReserved (record { owners = owners_of xs; records = xs }) o (Some i)
    → owners_of (change_ownership xs i (one_listed n)) ≡ add_to_list_in (owners_of xs) o n
listed_owners sound None i n reserved = absurd cc
listed_owners sound (Some o) i n reserved = (changed sound o.key i reserved.0
    (one_listed n)).owners

-- ==== the rows of owners' records: the position of each record by its key, and that the records in
-- the order of these are the map's

-- ---- the position of each record, of those below a position

abbrev pub IsPositionBelow : List MaybeRecord → ℕ → ℕ → Option ℕ → Type 0
IsPositionBelow records n key None =
    (i : ℕ) → i < n → record_at key (slice_get records i) ≡ None
IsPositionBelow records n key (Some i) = HasRecord key (slice_get records i)

-- ---- the records in the order of their keys

abbrev ownership_in : Option MaybeRecord → Ownership
ownership_in (Some (Some r)) = r.ownership
ownership_in _ = record { names = []; count = 0 }

module _ (records : List MaybeRecord) where
  abbrev record_of_entry : ℕ × ℕ → ℕ × Ownership
  record_of_entry e = (e.0, ownership_in (slice_get records e.1))

  -- the rows of the records at the positions of these entries
  abbrev pub rows_at : ℕ → List (ℕ × ℕ) → List BaseRow
  rows_at number [] = []
  rows_at number (e ∷ es) = rows_of_record number (slice_get records e.1) ++ rows_at number es

  rows_there : (number key i : ℕ) → HasRecord key (slice_get records i)
      → rows_of_record number (slice_get records i)
      ≡ record_rows number (key, ownership_in (slice_get records i))
  rows_there number key i has =
      let there = standing key (slice_get records i) has in
      ap (rows_of_record number) there.1
      ∙ (λ j. record_rows number (sym there.2 j, ownership_in (sym there.1 j)))

  rows_each : (number : ℕ) (es : List (ℕ × ℕ))
      → AllByRecursion (λ (e : ℕ × ℕ). HasRecord e.0 (slice_get records e.1)) es
      → rows_at number es ≡ owner_rows number (list_map record_of_entry es)
  rows_each number [] all = refl
  rows_each number (e ∷ es) all =
      λ i. rows_there number e.0 e.1 all.0 i ++ rows_each number es all.1 i

  find_entry : (q : ℕ) (es : List (ℕ × ℕ)) → map.find nat_cmp q (list_map record_of_entry es)
      ≡ option_map (λ i. ownership_in (slice_get records i)) (lookup (is_at (nat_cmp q)) es)
  find_entry q [] = refl
  find_entry q (e ∷ es) = rw (find_entry q es) (grind arith)

below_keys : (records : List MaybeRecord) (x : ℕ) (es : List (ℕ × ℕ))
    → AllByRecursion (λ y. nat_cmp x y ≡ Less) (keys_of es)
    → T (map.Entries.below_all nat_cmp x (list_map (record_of_entry records) es))
below_keys records x [] all = tt
below_keys records x (e ∷ es) all = rw all.0 (below_keys records x es all.1)

rising : (records : List MaybeRecord) (es : List (ℕ × ℕ)) → IsStrictlySortedBy nat_cmp (keys_of es)
    → T (map.is_sorted nat_cmp (list_map (record_of_entry records) es))
unfolding IsStrictlySortedBy
rising records [] all = tt
rising records (e ∷ es) all = grind (arith, below_keys records e.0 es all.0, rising records es all.1)

pub in_order : {records : List MaybeRecord} → HasDistinctKeys records → (number : ℕ)
    → (es : List (ℕ × ℕ)) → IsStrictlySortedBy nat_cmp (keys_of es)
    → ((key : ℕ) → IsPositionOf records key (lookup (is_at (nat_cmp key)) es))
    → All (λ (e : ℕ × ℕ). lookup (is_at (nat_cmp e.0)) es ≡ Some e.1) es
    → rows_at records number es ≡ owner_rows number (map.entries (owners_of records))
in_order {records} apart number es sorted found each =
    rows_each records number es (recursion_from_All _ es (All-weaker
    (λ (e : ℕ × ℕ). lookup (is_at (nat_cmp e.0)) es ≡ Some e.1)
    (λ (e : ℕ × ℕ). HasRecord e.0 (slice_get records e.1)) (λ e is. rw is at (found e.0)) es each))
    ∙ ap (owner_rows number) (sym (map.entries-from_sorted nat_cmp (list_map (record_of_entry records) es)
    (rising records es sorted))
    ∙ ap map.entries same)
  where
    at : (q : ℕ) (o : Option ℕ) → IsPositionOf records q o
        → option_map (λ i. ownership_in (slice_get records i)) o ≡ map.get (owners_of records) q
    at q None none = sym (get_none records q none)
    at q (Some i) has = let there = standing q (slice_get records i) has in
        sym (get_one apart q i _ there.3 ∙ ap (λ o. Some (ownership_in o)) (sym there.1))

    same : map.from_sorted {R = nat_cmp} (list_map (record_of_entry records) es) ≡ owners_of records
    same = map.same_map nat_cmp_total map.nat_cmp-IsAntisymmetric _ _ (λ q.
        map.get-from_sorted nat_cmp (list_map (record_of_entry records) es) q (rising records es sorted)
        ∙ find_entry records q es ∙ at q (lookup (is_at (nat_cmp q)) es) (found q))

-- ---- the boxes of a record

pub owned_all : (row_of : Name → BaseRow) (cells : List CellName) (n : ℕ) → length cells ≤ n
    → list_map (λ c. row_of (name_of_cell c)) (take n cells)
    ≡ list_map row_of (list_map name_of_cell cells)
owned_all row_of [] n all = rw take-nil
owned_all row_of (c ∷ cells) zero all = absurd (omega arith)
owned_all row_of (c ∷ cells) (suc n) all =
    rw (owned_all row_of cells n (omega arith))
