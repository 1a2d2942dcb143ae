-- What replies say, ids and numbers of slots aside, and how two lists of them compare.
use Rattle.std.specs.Prelude.{◌≡◌, ◌≢◌, ◌⊎◌, ◌<◌, ℕ, List, Option, None, Some, min, option_map}
use Rattle.std.specs.Prelude.{String, string_bytes, nat_lt, if◌then◌else◌, map as list_map}
use Rattle.std.specs.Prelude.{slice_get}
use Rattle.generational_core.specs.Borrowing.{BorrowRefusal}
use Rattle.generational_core.specs.Borrowing.BorrowRefusal.{Dropped, BeingWritten, BeingRead}
use Rattle.generational_errors.specs.declared.error.Location.{Location}
use Rattle.generational_errors.specs.declared.error.StoreError.TheVariants.{OutOfMemory}
use Rattle.generational_sessions.specs.declared.calls.Reply.{Reply}
use Rattle.generational_sessions.specs.Numbered.{erase, refusal_in}
use Rattle.generational_sessions.specs.Places.{as_reply}
use Rattle.generational_sessions.specs.Session.{SessionReply}
use Rattle.generational_sessions.specs.Session.SessionReply.{ABox, AnOwner, AReader, AWriter}
use Rattle.generational_sessions.specs.Session.SessionReply.{IsDone, TheOld, Yes, TheId, TheSlot}
use Rattle.generational_sessions.specs.Session.SessionReply.{Created, Error, Lacking, HandedBack}
use Rattle.generational_sessions.specs.Session.SessionReply.{Unready, NoSuch}
use Rattle.boxes_script.specs.declared.verdict.Verdict.{Verdict}
use Rattle.boxes_script.specs.declared.verdict.Verdict.TheVariants as verdict

-- a location with its file's name as plain text
abbrev pub plain_location : Location → Location
plain_location l = record l { file = record l.file { ref_ptr = (0, 0) } }

abbrev pub plain_refusal : BorrowRefusal → BorrowRefusal
plain_refusal (Dropped l) = Dropped (plain_location l)
plain_refusal (BeingWritten l) = BeingWritten (plain_location l)
plain_refusal (BeingRead ls) = BeingRead (list_map plain_location ls)

module _ {T U : Type 0} (f : T → U) where
  -- a reply with its locations plain, and its values turned by a function
  abbrev pub plain_reply : SessionReply T → SessionReply U
  plain_reply (ABox b) = ABox (record b { created_at = plain_location b.created_at })
  plain_reply AnOwner = AnOwner
  plain_reply AReader = AReader
  plain_reply AWriter = AWriter
  plain_reply IsDone = IsDone
  plain_reply (TheOld v) = TheOld (f v)
  plain_reply (Yes b) = Yes b
  plain_reply (TheId id) = TheId id
  plain_reply (TheSlot n) = TheSlot n
  plain_reply (Created l) = Created (plain_location l)
  plain_reply (Error t) = Error (plain_refusal t)
  plain_reply (Lacking e) = Lacking e
  plain_reply (HandedBack v e) = HandedBack (f v) e
  plain_reply (Unready back) = Unready (option_map f back)
  plain_reply (NoSuch back) = NoSuch (option_map f back)

module _ {Z : Type 0} where
  -- what a reply says: ids and numbers of slots are ignored, and texts are their bytes
  abbrev pub reply_told : Reply (String Z) → SessionReply (List ℕ)
  reply_told x = plain_reply string_bytes (erase (as_reply x))

  -- the call at a place failed to allocate
  abbrev pub LacksAt : List (Reply (String Z)) → ℕ → Type 0
  LacksAt xs i = slice_get (list_map (λ x. refusal_in (as_reply x)) xs) i ≡ Some (Some OutOfMemory)

  -- at a place both lists say the same, and neither call failed to allocate
  pub record AreSameAt (xs ys : List (Reply (String Z))) (i : ℕ) : Type 0 where
    pub same : slice_get (list_map reply_told xs) i ≡ slice_get (list_map reply_told ys) i
    pub one : LacksAt xs i → ⊥
    pub other : LacksAt ys i → ⊥

  abbrev pub AreSameBelow : List (Reply (String Z)) → List (Reply (String Z)) → ℕ → Type 0
  AreSameBelow xs ys n = (i : ℕ) → i < n → AreSameAt xs ys i

  -- how two lists compare: past the end of a list there is nothing
  abbrev pub Compares : List (Reply (String Z)) → List (Reply (String Z)) → Verdict → Type 0
  Compares xs ys verdict.Same = (i : ℕ) → AreSameAt xs ys i
  Compares xs ys (verdict.Differs n) = AreSameBelow xs ys n
      × (slice_get (list_map reply_told xs) n ≢ slice_get (list_map reply_told ys) n)
      × (LacksAt xs n → slice_get ys n ≡ None) × (LacksAt ys n → slice_get xs n ≡ None)
  Compares xs ys (verdict.Refused n) = AreSameBelow xs ys n × (LacksAt xs n ⊎ LacksAt ys n)

-- the verdict if a store breaks the bound on slots, first at a place
abbrev pub with_breach : Verdict → Option ℕ → Verdict
with_breach v None = v
with_breach verdict.Same (Some n) = verdict.Differs n
with_breach (verdict.Differs m) (Some n) = verdict.Differs (min m n)
with_breach (verdict.Refused m) (Some n) =
    if nat_lt n m then verdict.Differs n else verdict.Refused m
