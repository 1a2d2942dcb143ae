-- What ids, guards, owners and stores print.
use Rattle.std.specs.Prelude.{ℕ, List, ◌∷◌, ◌++◌, codes}
use Rattle.std.specs.Fmt.{decimal}
use Rattle.generational_core.specs.declared.boxes.GenerationalBoxId.{GenerationalBoxId}
use Rattle.generational_core.specs.Names.{Name}
use Rattle.generational_core.specs.State.{State}
use Rattle.generational_core.specs.Borrowing.{Guard}
use Rattle.generational_core.specs.Machine.{OwnerName}
use Rattle.generational_core.specs.Slots.{slots, free}

-- slot@generation, in decimal
abbrev pub id_text : GenerationalBoxId → List ℕ
id_text id = decimal id.slot ++ (64 ∷ decimal id.generation)

abbrev pub name_text : Name → List ℕ
name_text n = decimal n.slot ++ (64 ∷ decimal n.generation)

-- the ticket of a reader, or a writer, and its cell's slot@generation
abbrev pub reader_text : Guard → List ℕ
reader_text g = codes "reader " ++ (decimal g.ticket ++ (codes " of " ++ name_text g.cell))

abbrev pub writer_text : Guard → List ℕ
writer_text g = codes "writer " ++ (decimal g.ticket ++ (codes " of " ++ name_text g.cell))

-- an owner's key and its store's number
abbrev pub owner_text : OwnerName → List ℕ
owner_text o = codes "owner " ++ (decimal o.key ++ (codes " of store " ++ decimal o.store))

-- a store's number, and how many slots it has and of these free ones
abbrev pub store_text : {T : Type 0} → State T → List ℕ
store_text S =
    codes "store " ++ (decimal S.number ++ (codes ": " ++ (decimal (slots S)
    ++ (codes " slots, " ++ (decimal (free S) ++ codes " free")))))
