-- The names that these proofs take from below, passed on from one place.
pub use Rattle.entity_table.specs.Tables.{element_in, Entity}
pub use Rattle.handles.specs.Handles.{IsOther}
pub use Rattle.generational_laws.proofs.callers.{get_pushed, same_id_sees}
pub use Rattle.reactive.specs.Graphs.{kind_in}
pub use Rattle.scene_tree.proofs.Moving.Trees.Links.Forests.{is_id, times_apart}
pub use Rattle.handles.specs.Handles.{is_same, pointer_in}
pub use Rattle.scene_tree.specs.Nodes.{Node, times}
pub use Rattle.scene_tree.specs.Trees.{AreAncestors, IsRootedIn, IsStepsBelow, parent_of, TreeState}
pub use Rattle.scene_tree.specs.Trees.{value_of}
pub use Rattle.session_table.specs.Tables.{live}
pub use Rattle.std.proofs.Common.{All, ap, arith, Err, false, inl, length, List, map, nat_eq}
pub use Rattle.std.proofs.Common.{None, Option, refl, rules, Some, subst, suc, sym, true, zero, ℕ}
pub use Rattle.std.proofs.Common.{[], ⊎_elim, ◌++◌, ◌+◌, ◌<◌, ◌∙◌, ◌∷◌, ◌≡◌, ◌≢◌, ◌≤◌}
pub use Rattle.std.proofs.lemmas.Bool.{cases_Bool, eqb-true, true≢false}
pub use Rattle.std.proofs.lemmas.Iterator.Consumers.{YieldsList-end, YieldsList-from_first}
pub use Rattle.std.proofs.lemmas.List.Elements.{All-get_or}
pub use Rattle.std.proofs.lemmas.Map.Entries.{place_from_lookup}
pub use Rattle.std.proofs.lemmas.Option.{IfSome_then, none-some, same_Some, slice_get-map}
pub use Rattle.std.proofs.lemmas.Simd.{map-map}
pub use Rattle.std.proofs.{lemmas.Result.IfOk-weaker, lemmas.List.map-id}
pub use Rattle.std.specs.Prelude.{is_some, IsErr, option_map, slice_get}
