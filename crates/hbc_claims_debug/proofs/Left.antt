-- What a refused call leaves follows from its promise.
use Rattle.hbc_claims_debug.specs.Left.{Left}

pub left : Left
left = record {
  tables = λ file offset before after k v. v.leaves;
  strings = λ s base count t t' k v. v.leaves;
  scopes = λ s strings counts t t' k v. v.leaves;
  callees = λ s strings count t t' k v. v.leaves;
}
