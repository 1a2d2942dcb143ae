pub mod Moving
pub mod Backwards
pub mod Packing
pub mod Neighbours
pub mod Parting
pub mod Queueing
unfoldable pub use Moving.*
pub use Backwards.{last_yielded, turned_read, turned_rest, turned_walk, turned_within}
pub use Packing.{handle_is, packed_length, packed_room, packed_within, repacked, unpacked_at, unpacked_length, unpacked_more}
pub use Neighbours.{next_noted, previous_noted}
pub use Parting.{AreHeld, cell_number, cell_within, held_more, held_noted, kept_linked, lone_after, lone_forest, lone_kept}
pub use Parting.{lone_none, lone_of, lone_rows, new_lone, row_at, rows_linked, with_kept}
pub use Queueing.{all_rows, child_listed, listed_none, met_root, next_child, next_short, root_listed, rows_for, slot_passed, unmet_root}
