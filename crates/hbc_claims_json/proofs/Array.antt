-- JSON by its RFC: one reading of any bytes, and the output of texts is read as them.
use Prim.Native.Nat.{ℕ}
use mathlib.Core.Path.{◌≡◌, sym, ap, ◌∙◌}
use mathlib.Core.List.{List}
use Rattle.hbc_text_forms.specs.Utf8.{WellFormed}
use Rattle.hbc_text_forms.proofs.Codes.{formed_all}
use Rattle.hbc_json_forms.specs.Json.{array}
use Rattle.hbc_claims_json.specs.Rfc8259.{JsonText, encodings, Reads}
use Rattle.hbc_claims_json.specs.Array.{Texts, Reading, OfTexts}
use Rattle.hbc_claims_json.proofs.Bytes.{one_list}
use Rattle.hbc_claims_json.proofs.Reader.{json_one}
use Rattle.hbc_claims_json.proofs.Named.{json_texts}
use Rattle.hbc_claims_json.proofs.Writer.{array_reads}

one_reading : (bytes : List ℕ) (ts us : List (List ℕ)) → Reads bytes ts → Reads bytes us → ts ≡ us
one_reading bytes ts us a b =
    let e : a.characters ≡ b.characters = one_list a.scalar b.scalar (sym a.encoded ∙ b.encoded) in
    let j : JsonText b.characters a.strings = rw e at a.is in
    a.names ∙ ap encodings (json_one j b.is) ∙ sym b.names

formed : (bytes : List ℕ) (ts : List (List ℕ)) → Reads bytes ts → WellFormed bytes
formed bytes ts a = rw a.encoded (formed_all a.scalar)

texts : (bytes : List ℕ) (ts : List (List ℕ)) → Reads bytes ts → Texts ts
texts bytes ts a = rw a.names (json_texts a.is a.scalar)

pub reading : Reading
reading = record { one = one_reading; formed = formed; texts = texts }

pub of_texts : (ts : List (List ℕ)) → Texts ts → OfTexts ts
of_texts ts w =
    let r : Reads (array ts) ts = array_reads w in
    record {
      reads = r;
      only = λ us a. one_reading (array ts) us ts a r;
      formed = formed (array ts) ts r;
      apart = λ us v e. one_reading (array ts) us ts (rw e at (array_reads v)) r;
    }
