use Rattle.std.proofs.Common.{arith, take, ◌≡◌, ◌∙◌, ◌+◌, ◌++◌, ◌∷◌, [], List, ap, sym, subst}
use Rattle.std.proofs.lemmas.List.{take_more}
use Rattle.std.specs.List.{AllByRecursion}
use Rattle.store_images.specs.declared.image.SlotImage.{SlotImage}
use Rattle.saved_bytes.specs.Images.{IsSlotNamed}
use Rattle.saved_bytes.specs.FileNames.{texts}
use Rattle.saved_bytes.proofs.Files.{all_pushed, named_kept}
use Rattle.saved_bytes.proofs.images.names_in.Goals as goal

pub loop-slot-preserved : goal.loop-slot-preserved
loop-slot-preserved g c =
    let xs = c.args.slots.now in
    let i = c.loop-slot.slot-index in
    let x = c.slot-item.result in
    let old = texts c.loop-slot.names.items in
    let new = texts c.add_name_of.new.names.items in
    let more : take (i + 1) xs ≡ take i xs ++ x ∷ [] =
    take_more xs i x (omega arith) ∙ ap (λ (y : SlotImage g.row.T.Denot). take i xs ++ y ∷ []) (sym c.slot-item.is) in
    subst (λ (ys : List (SlotImage g.row.T.Denot)). AllByRecursion (IsSlotNamed new) ys) (sym more)
    (all_pushed (IsSlotNamed new) (take i xs) x
    (named_kept old new (take i xs) c.add_name_of.ensures.kept c.loop-slot.invariant) c.in_ok-add_name_of.ensures.there)
