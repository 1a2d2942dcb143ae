-- What holds of keys holds of their locations.
use Rattle.std.proofs.Common.{◌≡◌, ℕ, Bool, true, false, ◌||◌, List, [], ◌∷◌, ◌++◌, map, slice_get, Some}
use Rattle.std.proofs.Common.{get_or, length, refl, subst, sym, ap, ◌∙◌, if◌then◌else◌, position, ◌<◌}
use Rattle.std.proofs.Common.{arith, take, ◌+◌, ◌≤◌}
use Rattle.std.proofs.lemmas.List.{length-map, map-append, take_more}
use Rattle.std.proofs.lemmas.List.Folds.{list_any_at}
use Rattle.std.proofs.lemmas.List.Quantifiers.{position-Some}
use Rattle.std.proofs.lemmas.Option.{get_or_from_slice_get, slice_get-get_or, slice_get-map, slice_get_read}
use Rattle.std.proofs.lemmas.Option.{slice_get_within}
use Rattle.std.specs.Bool.{OnTrue}
use Rattle.std.specs.List.{list_any}
use Rattle.std.specs.Option.{option_map}
use Rattle.indexmap.specs.IndexSet.{insert_key}
use Rattle.generational_errors.specs.Texts.{same_location}
use Rattle.generational_errors.specs.declared.error.Location.{Location}
use Rattle.location_list.specs.Locations.{IsAt, is_among, key_location, with_location}
use Rattle.location_list.specs.declared.list.LocationKey.{LocationKey}

-- whether two keys are of locations with the same letters, line and column, as their `==` says
abbrev pub same_key : LocationKey → LocationKey → Bool
same_key k q = same_location (key_location k) (key_location q)

pub among : (keys : List LocationKey) (key : LocationKey)
    → is_among (map key_location keys) (key_location key) ≡ list_any (same_key key) keys
among [] key = refl
among (k ∷ ks) key = ap (λ b. same_key key k || b) (among ks key)

pub inserted : (keys : List LocationKey) (key : LocationKey)
    → map key_location (insert_key same_key keys key) ≡ with_location (map key_location keys) (key_location key)
inserted keys key = rw (among keys key) (by (list_any (same_key key) keys))
  where
    by : (b : Bool) → map key_location (if b then keys else keys ++ key ∷ [])
        ≡ (if b then map key_location keys else map key_location keys ++ key_location key ∷ [])
    by true = refl
    by false = map-append key_location keys (key ∷ [])

pub kept_at : (keys : List LocationKey) (i : ℕ) (key k : LocationKey) → slice_get keys i ≡ Some k → same_key key k ≡ true
    → IsAt (map key_location keys) i (key_location key)
kept_at keys i key k there same = record {
  kept = key_location k;
  there = slice_get-map key_location keys i ∙ ap (option_map key_location) there;
  alike = same;
}

pub found : (keys : List LocationKey) (i : ℕ) (key : LocationKey) → position (same_key key) keys ≡ Some i
    → IsAt (map key_location keys) i (key_location key)
found keys i key first =
    let p = position-Some (same_key key) keys i key first in
    kept_at keys i key _ (slice_get-get_or keys i key p.0) p.1

-- if a location is found, it is among them, and nothing is added
pub among_them : (list : List Location) (i : ℕ) (at : Location) → IsAt list i at → is_among list at ≡ true
among_them list i at h =
    list_any_at (same_location at) list i at (slice_get_within list i h.kept h.there)
    (rw (get_or_from_slice_get list i h.kept at h.there) h.alike)

pub stays : (list other : List Location) (i : ℕ) (at : Location) → other ≡ list → IsAt other i at
    → list ≡ with_location list at
stays list other i at e h =
    sym (ap (λ b. if b then list else list ++ at ∷ []) (among_them list i at (subst (λ l. IsAt l i at) e h)))

pub compared : (keys : List LocationKey) (i : ℕ) (k : LocationKey) (at : Location) (b : Bool) → i < length keys
    → k ≡ get_or keys i k → b ≡ same_location at (key_location k) → OnTrue b (IsAt (map key_location keys) i at)
compared keys i k at true within there same = record {
  kept = key_location k;
  there = slice_get-map key_location keys i
      ∙ ap (option_map key_location) (slice_get_read keys (length keys) i k refl within there);
  alike = sym same;
}
compared keys i k at false within there same = tt

pub numbered : (keys other : List LocationKey) (i n : ℕ) (at : Location) → other ≡ keys → length keys ≤ n + 1
    → IsAt (map key_location other) i at → i ≤ n
numbered keys other i n at same most h =
    let within = slice_get_within (map key_location other) i h.kept h.there in
    omega (arith, length-map other key_location, ap length same)

-- with another copy
pub copied : (keys : List LocationKey) (all more : List Location) (i : ℕ) (d : LocationKey) (at : Location)
    → all ≡ map key_location (take i keys) → i < length keys → at ≡ key_location (get_or keys i d)
    → more ≡ all ++ at ∷ [] → more ≡ map key_location (take (i + 1) keys)
copied keys all more i d at so_far within is one =
    one ∙ rw (take_more keys i d within, map-append, so_far, is) refl
