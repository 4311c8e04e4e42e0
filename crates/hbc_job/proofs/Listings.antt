-- The ways out of a listing.
use Prim.Native.Nat.{ℕ, ◌*◌, ◌-◌, ◌≤◌}
use mathlib.Core.Path.{◌≡◌, ap, sym, ◌∙◌}
use mathlib.Core.List.{List}
use native.Mathlib.Omega.{arith}
use lib.ListN.{length, take, drop, length-drop}
use lib.Seq.{take_all}
use Rattle.std.specs.Prelude.{Result, Ok, Err}
use Rattle.hbc_io.specs.declared.Refusal.{Refusal}
use Rattle.hbc_io.specs.Answer.{Answer, gives, refuses, and_then}
use Rattle.hbc_io.specs.Answers.{answered}
use Rattle.hbc_io.proofs.Exits.{reached, not_given}
use Rattle.hbc_function_record.specs.Row.{width}
use Rattle.hbc_function.specs.Table.{Table, read_answer, ReadFunctions}
use Rattle.hbc_job.specs.declared.Parts.{Parts}
use Rattle.hbc_job.specs.Job.{FILE, LISTED, job_of, listed_of, listing}

-- a job that is one has a file
pub has_file : (s : List ℕ) {r : Result Parts Refusal} {p : Parts} → answered r ≡ job_of s → r ≡ Ok p → FILE ≤ length s
unfolding job_of
has_file s e f =
    let a = reached _ _ _ _ not_given (sym e ∙ ap answered f) in
    (reached _ _ _ _ not_given a.1).0

pub no_job : (s : List ℕ) {r : Result Parts Refusal} {x : Refusal} → answered r ≡ job_of s → r ≡ Err x → refuses x ≡ listing s
unfolding listing
no_job s {r} {x} e f =
    let j : job_of s ≡ refuses x = sym e ∙ ap answered f in
    sym (ap (λ (a : Answer Parts). and_then a (listed_of (drop FILE s))) j)

-- the file of a job is all that stands behind its head, and its table is read with LISTED rows
module _ (s : List ℕ) {r : Result Parts Refusal} {p : Parts} (e : answered r ≡ job_of s) (f : r ≡ Ok p) {t : Table}
    (n : length t.rows ≡ LISTED * width) {q : Result (Unit {0}) Refusal} {t' : Table}
    (v : ReadFunctions (take (length s - FILE) (drop FILE s)) p.layout p.start p.count t q t') where
  rest_is : take (length s - FILE) (drop FILE s) ≡ drop FILE s
  rest_is = take_all (length s - FILE) (drop FILE s) (let h = has_file s e f in rw length-drop (omega arith))

  read_is : read_answer (drop FILE s) p.layout p.start p.count (LISTED * width) ≡ answered q
  read_is = ap (λ (b : List ℕ). read_answer b p.layout p.start p.count (LISTED * width)) (sym rest_is)
      ∙ ap (read_answer (take (length s - FILE) (drop FILE s)) p.layout p.start p.count) (sym n) ∙ sym v.says

  listing_is : listing s ≡ and_then (answered q) (λ u. gives p)
  unfolding listing listed_of
  listing_is =
      let j : job_of s ≡ gives p = sym e ∙ ap answered f in
      ap (λ (a : Answer Parts). and_then a (listed_of (drop FILE s))) j ∙ ap (λ (a : Answer (Unit {0})). and_then a (λ u. gives p)) read_is

  pub is_listed : {u : Unit {0}} → q ≡ Ok u → gives p ≡ listing s
  is_listed g = sym (listing_is ∙ ap (λ (a : Result (Unit {0}) Refusal). and_then (answered a) (λ u. gives p)) g)

  pub not_listed : {x : Refusal} → q ≡ Err x → refuses x ≡ listing s
  not_listed g = sym (listing_is ∙ ap (λ (a : Result (Unit {0}) Refusal). and_then (answered a) (λ u. gives p)) g)
