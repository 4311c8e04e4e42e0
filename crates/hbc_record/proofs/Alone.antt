-- One part of a table is handed out: its words, and where they stand.
use Rattle.std.proofs.Common.{◌≡◌, ℕ, List, sym, ◌∙◌, MutBor}
use Rattle.hbc_record.specs.Records.{IsFront, IsGiven}

pub one_front : {t r q : MutBor (List ℕ)} {k : ℕ} → IsFront t k r → IsFront t k q → (r.now ≡ q.now) × (r.ref_ptr ≡ q.ref_ptr)
one_front e f = (e.words ∙ sym f.words, e.place ∙ sym f.place)

pub one_given : {s : List ℕ} {t r q : MutBor (List ℕ)} → IsGiven s t r → IsGiven s t q → (r.now ≡ q.now) × (r.ref_ptr ≡ q.ref_ptr)
one_given e f = (e.words ∙ sym f.words, e.place ∙ sym f.place)
