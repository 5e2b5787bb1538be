-- What can be read back from a transcript.
use Rattle.std.specs.Prelude.{◌≡◌, ℕ, ℤ, ◌^◌, ◌<◌, List, [], ◌∷◌, length, map}
use Rattle.std.specs.Int.Signed.{mag}
use Rattle.std.specs.List.{AllByRecursion}
use Rattle.mi_base.specs.declared.records.Update.TheVariants as update
use Rattle.mi_base.specs.declared.records.LogEvent.{LogEvent}
use Rattle.mi_base.specs.declared.records.LogEvent.TheVariants as event
use Rattle.mi_base.specs.declared.records.Reply.{Reply}
use Rattle.mi_base.specs.declared.records.Reply.TheVariants.{Stored, Removed, Present, Absent, Full, NoPages, Memory, Range, Nearest}
use Rattle.mi_base.specs.declared.records.Row.{Row}
use Rattle.mi_tree.specs.declared.outcomes.Leaf.{Leaf}
use Rattle.mi_tree.specs.declared.outcomes.Outcome.{Outcome}
use Rattle.mi_print.specs.Render.{transcript}

-- numbers of 64 bits, as all numbers and lengths of an outcome are
abbrev pub AreNumbers : List ℕ → Type 0
AreNumbers ns = AllByRecursion (λ n. n < 2 ^ 64) ns

-- coordinates of 63 bits and a sign
abbrev pub AreCoordinates : List ℤ → Type 0
AreCoordinates zs = AllByRecursion (λ z. mag z < 2 ^ 63) zs

-- the numbers in a reply's first line, the number of its rows among them
abbrev pub reply_numbers : Reply → List ℕ
reply_numbers (Stored n) = n ∷ []
reply_numbers (Removed n) = n ∷ []
reply_numbers (Present p) = p.updates ∷ p.splits ∷ []
reply_numbers (Absent p) = p.updates ∷ p.splits ∷ []
reply_numbers (Full limit) = limit ∷ []
reply_numbers (NoPages limit) = limit ∷ []
reply_numbers Memory = []
reply_numbers (Range p rows cells distances) = p.updates ∷ p.splits ∷ length rows ∷ cells ∷ distances ∷ []
reply_numbers (Nearest p rows cells) = p.updates ∷ p.splits ∷ length rows ∷ cells ∷ []

-- the rows of a reply, one line each
abbrev pub reply_rows : Reply → List Row
reply_rows (Range p rows cells distances) = rows
reply_rows (Nearest p rows cells) = rows
reply_rows y = []

abbrev pub IsPrintableRow : Row → Type 0
IsPrintableRow row = AreNumbers (row.distance ∷ row.id ∷ [])

abbrev pub IsPrintableReply : Reply → Type 0
IsPrintableReply y = AreNumbers (reply_numbers y) × AllByRecursion IsPrintableRow (reply_rows y)

abbrev pub IsPrintableEvent : LogEvent → Type 0
IsPrintableEvent (event.Update session op (update.Insert id vector)) = AreNumbers (session ∷ op ∷ id ∷ []) × AreCoordinates vector
IsPrintableEvent (event.Update session op (update.Delete id)) = AreNumbers (session ∷ op ∷ id ∷ [])
IsPrintableEvent (event.Split prefix) = AreNumbers prefix

-- what is printed of a leaf: its prefix and its count, and not its hull
pub record Cell : Type 0 where
  pub prefix : List ℕ
  pub count : ℕ

abbrev pub cell_of : Leaf → Cell
cell_of leaf = record { prefix = leaf.prefix; count = leaf.count }

abbrev pub IsPrintableLeaf : Leaf → Type 0
IsPrintableLeaf leaf = AreNumbers (leaf.count ∷ leaf.prefix)

-- An outcome whose numbers have 64 bits, as those of each outcome in a program have.
pub record IsPrintable (o : Outcome) : Type 0 where
  pub replies : AllByRecursion (λ session. AllByRecursion IsPrintableReply session) o.replies
  pub log : AllByRecursion IsPrintableEvent o.log
  pub cells : AllByRecursion IsPrintableLeaf o.cells
  pub totals : AreNumbers (o.entries ∷ o.allotted ∷ o.limit ∷ [])

abbrev pub text_of : Outcome → List ℕ
text_of o = transcript o.replies o.log o.cells o.entries o.allotted o.limit

-- two outcomes are the same in all that is printed
pub record SameMeaning (a b : Outcome) : Type 0 where
  pub replies : a.replies ≡ b.replies
  pub log : a.log ≡ b.log
  pub cells : map cell_of a.cells ≡ map cell_of b.cells
  pub entries : a.entries ≡ b.entries
  pub allotted : a.allotted ≡ b.allotted
  pub limit : a.limit ≡ b.limit

-- one text has one meaning: different outcomes have different texts
abbrev pub OneMeaning : Type 0
OneMeaning = (a b : Outcome) → IsPrintable a → IsPrintable b → text_of a ≡ text_of b → SameMeaning a b
