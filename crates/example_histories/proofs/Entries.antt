-- Finite maps computed as lists: what is in them is written out, entry by entry.
use Rattle.std.specs.{declared.cmp.Ordering.Ordering, FinMap.Entries.find-where_key}
use Rattle.std.specs.{FinMap.Entries.is_sorted-where_key, List.filter, List.list_any, Ordering.eq_by_cmp}
use Rattle.generational_core.specs.{Cells.is_shared, Cells.refers_to, Ending.sweep, Ending.take_away, Names.among}
use Rattle.generational_core.specs.{State.is_named}
use Rattle.example_histories.proofs.Common.{[], ap, Bool, by_number, Cell, change, cond, false, find, is_sorted}
use Rattle.example_histories.proofs.Common.{List, Name, name_cmp, nat_cmp, not, Option, put, refl, Some, subst}
use Rattle.example_histories.proofs.Common.{sym, true, ℕ, ◌||◌, ◌∙◌, ◌≡◌}
use Rattle.std.proofs.Common.{arith, None}
use Rattle.std.specs.Prelude.{length, map as list_map, T}
use Rattle.generational_core.proofs.maps.Maps.{by_name, by_option, get-keep, IsKeyOrder}
use Rattle.std.specs.FinMap as map

-- the entries in which what is at a key, if anything does, is changed by f
abbrev pub change_entry : {K X : Type 0} (R : K → K → Ordering)
    → K → (X → X) → List (K × X) → Option X → List (K × X)
change_entry R k f es None = es
change_entry R k f es (Some x) = put R k (f x) es

abbrev pub alter : {K X : Type 0} (R : K → K → Ordering)
    → K → (X → X) → List (K × X) → List (K × X)
alter R k f es = change_entry R k f es (find R k es)

module _ {K X : Type 0} (R : K → K → Ordering) where
  -- a map is made of its entries
  from_entries : (m : map.FinMap R X) (es : List (K × X))
      → map.entries m ≡ es → m ≡ map.from_sorted es
  from_entries m es h =
      let s = subst (λ x. T (is_sorted R x)) h (map.entries_sorted m) in
      map.same_entries_map m (map.from_sorted es) (h ∙ sym (map.entries-from_sorted R es s))

  pub none_there : map.empty {X = X} {R = R} ≡ map.from_sorted []
  none_there = sym (map.empty_of_len (map.from_sorted [])
      (map.len-entries _ ∙ ap length (map.entries-from_sorted R [] tt)))

  module _ (es : List (K × X)) (h : is_sorted R es ≡ true) where
    pub there : map.entries (map.from_sorted {R = R} es) ≡ es
    there = map.entries-from_sorted R es (subst T (sym h) tt)

    pub get_there : (q : K) → map.get (map.from_sorted {R = R} es) q ≡ find R q es
    get_there q = map.get-entries _ q ∙ ap (find R q) there

    pub len_there : map.len (map.from_sorted {R = R} es) ≡ length es
    len_there = map.len-entries _ ∙ ap length there

    pub put_there : (k : K) (v : X) → IsKeyOrder R
        → map.insert (map.from_sorted {R = R} es) k v ≡ map.from_sorted (put R k v es)
    put_there k v o =
        from_entries _ _ (map.entries-insert o.total _ k v)
        ∙ ap (λ x. map.from_sorted (put R k v x)) there

    pub kept_there : (p : K → Bool) → IsKeyOrder R
        → map.retain_keys (map.from_sorted {R = R} es) p
        ≡ map.from_sorted (filter (λ e. p e.0) es)
    kept_there p o = map.same_map o.total o.exact _ _ (λ q.
        get-keep o _ p q ∙ ap (λ x. cond (p q) x None) (get_there q)
        ∙ sym (map.get-from_sorted R _ q (is_sorted-where_key R p es (subst T (sym h) tt))
        ∙ find-where_key R p q (λ x t. ap p (sym (o.exact q x t))) es))

    pub changed_there : (k : K) (f : X → X) → IsKeyOrder R
        → change (map.from_sorted {R = R} es) k f ≡ map.from_sorted (alter R k f es)
    unfolding change
    changed_there k f o = by_option (find R k es) (λ none. cc (get_there k))
        (λ x some. cc (get_there k, put_there k (f x) o))

    -- to remove a key is to keep the others
    pub removed_there : (k : K) → IsKeyOrder R → map.remove (map.from_sorted {R = R} es) k
        ≡ map.from_sorted (filter (λ e. not (eq_by_cmp R e.0 k)) es)
    removed_there k o = map.same_map o.total o.exact _ (map.retain_keys _ (λ q. not (eq_by_cmp R q k)))
        (λ q. rw (map.get-remove o.total, get-keep o) (grind arith)) ∙ kept_there _ o

-- ---- cells that go

module _ {T : Type 0} where
  -- the cells except for the Shared ones that no Ref names, and except for the boxes of some names
  abbrev pub sweep_entries : List (Name × Cell T) → List (Name × Cell T)
  sweep_entries es = filter (λ e. not (is_shared (find name_cmp e.0 es))
      || list_any (λ n. refers_to e.0 (find name_cmp n es)) (list_map (λ e. e.0) es)) es

  abbrev pub take_entries_away : List (Name × Cell T) → List Name → List (Name × Cell T)
  take_entries_away es names =
      filter (λ e. is_shared (find name_cmp e.0 es) || not (among names e.0)) es

  module _ (es : List (Name × Cell T)) (h : is_sorted name_cmp es ≡ true) where
    pub swept_there : sweep (map.from_sorted es) ≡ map.from_sorted (sweep_entries es)
    unfolding sweep is_named
    swept_there = kept_there name_cmp es h _ by_name
        ∙ (λ i. map.from_sorted (filter (λ e. not (is_shared (get_there name_cmp es h e.0 i))
        || list_any (λ n. refers_to e.0 (get_there name_cmp es h n i))
        (list_map (λ e. e.0) (there name_cmp es h i))) es))

    pub without_there : (names : List Name)
        → take_away (map.from_sorted es) names ≡ map.from_sorted (take_entries_away es names)
    unfolding take_away
    without_there names = kept_there name_cmp es h _ by_name
        ∙ (λ i. map.from_sorted (filter (λ e. is_shared (get_there name_cmp es h e.0 i)
        || not (among names e.0)) es))

-- what maps are and answer, entry by entry
pub ruleset keys = (by_name, by_number, none_there, get_there, len_there)

pub ruleset changes = (put_there, kept_there, removed_there, changed_there)

pub ruleset entries = (swept_there, without_there, keys, changes)
