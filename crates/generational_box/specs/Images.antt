-- The words on images that contracts of this crate use, passed on.
pub use Rattle.store_images.specs.Images.{IsFault, IsLoadError, IsWholeImage, told}
pub use Rattle.store_images.specs.Saving.{IsCellCopy, IsSaveError, IsStateCopy}
pub use Rattle.store_images.specs.Adopting.{adopted, id_adopted}
