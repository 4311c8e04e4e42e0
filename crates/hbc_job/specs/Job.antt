-- docs/FORMAT.md, section 9: the listing program's job: 1 layout (1 byte), 2 start, 3 count (4 bytes each), 4 file, once each in this order, ending there;
-- and what a listing of it answers.
use Rattle.std.specs.Prelude.{ℕ, ◌+◌, ◌*◌, ◌-◌, List, Bool, false, cond, length, drop, eqb}
use Rattle.hbc_io.specs.Outcome.{limit}
use Rattle.hbc_io.specs.Answer.{Answer, gives, refused_at, and_then}
use Rattle.hbc_io.specs.Lends.{below}
use Rattle.hbc_io.specs.Plain.{word_at}
use Rattle.hbc_function_record.specs.declared.Layout.TheVariants.{Legacy16, Modern12}
use Rattle.hbc_function_record.specs.Row.{width}
use Rattle.hbc_function.specs.Table.{read_answer}
use Rattle.hbc_job.specs.declared.Parts.{Parts}

-- where the file starts: after three heads, 1 + 4 + 4 bytes, and its own head
abbrev pub FILE : ℕ
FILE = 21

-- how many functions are listed at most
abbrev pub LISTED : ℕ
LISTED = 512

-- a field's head: a tag of one byte, a length of two, little-endian
unfoldable pub tagged : List ℕ → ℕ → ℕ → ℕ → Bool
tagged s at tag len = cond (eqb (word_at 1 s at) tag) (eqb (word_at 2 s (at + 1)) len) false

-- whatever is wrong with a job, it is 12 at 0
abbrev pub malformed : Answer Parts
malformed = refused_at 12 0

-- layout 0 or 1
abbrev pub parts_of : ℕ → ℕ → ℕ → Answer Parts
parts_of layout start count =
    cond (eqb layout 0) (gives (record { layout = Legacy16; start = start; count = count }))
    (cond (eqb layout 1) (gives (record { layout = Modern12; start = start; count = count })) malformed)

-- heads at 0, 4, 11 and 18, and the file takes all that is left; an input longer than the longest file is no job
unfoldable pub job_of : List ℕ → Answer Parts
job_of s =
    below limit (length s) malformed
    (below (length s) FILE malformed
    (cond (tagged s 0 1 1)
    (cond (tagged s 4 2 4)
    (cond (tagged s 11 3 4)
    (cond (tagged s 18 4 (length s - FILE)) (parts_of (word_at 1 s 3) (word_at 4 s 7) (word_at 4 s 14))
    malformed) malformed) malformed) malformed))

-- the functions of a file, as a table read with LISTED rows answers
unfoldable pub listed_of : List ℕ → Parts → Answer Parts
listed_of file p = and_then (read_answer file p.layout p.start p.count (LISTED * width)) (λ u. gives p)

-- a listing: the job that was listed, or the refusal that its one line shows
unfoldable pub listing : List ℕ → Answer Parts
listing s = and_then (job_of s) (listed_of (drop FILE s))
