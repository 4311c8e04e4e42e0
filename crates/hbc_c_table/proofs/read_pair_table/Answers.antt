use Rattle.hbc_c_table.proofs.read_pair_table.Goals as goal

pub returns : goal.returns
returns c = record { answer = c.read_pair_table-answer.result; promised = c.read_pair_table-answer.ensures; tells = c.moved.ensures }
