use Rattle.hbc_json.proofs.Laws.{ample_first, ample_more, ample_end, inside_most, bytes_few}
use Rattle.hbc_text_forms.proofs.Laws.{no}
use mathlib.Core.Path.{refl}
use native.Mathlib.Omega.{arith}
use Rattle.hbc_json.proofs.Strings.is_ample.Goals as goal

pub returns-then-room-lt2 : goal.returns-then-room-lt2
returns-then-room-lt2 c = λ q. no q

pub loop-k-init : goal.loop-k-init
loop-k-init c = ample_first c.args.self.storage.now c.args.self.rows.now c.args.self.count _ c.if-room-lt2.false

pub overflow_mul-n : goal.overflow_mul-n
overflow_mul-n c = omega (arith, bytes_few c.args.self.storage.now c.args.self.rows.now c.loop-k.k c.string_bytes.ensures.bytes c.args.self.few)

pub overflow_add-n : goal.overflow_add-n
overflow_add-n c = omega (arith, bytes_few c.args.self.storage.now c.args.self.rows.now c.loop-k.k c.string_bytes.ensures.bytes c.args.self.few)

pub returns-then-left-n : goal.returns-then-left-n
returns-then-left-n c = λ q. no q

pub loop-k-preserved : goal.loop-k-preserved
loop-k-preserved c = ample_more c.args.self.storage.now c.args.self.rows.now c.args.self.count _ _ _ c.loop-k.invariant c.loop-k-test.true _ (omega (arith, inside_most c.args.self.storage.now c.args.self.rows.now c.loop-k.k refl c.string_bytes.ensures.bytes)) c.if-left-n.false

pub returns : goal.returns
returns c = λ q. ample_end c.args.self.storage.now c.args.self.rows.now c.args.self.count _ _ _ c.loop-k.invariant c.loop-k-test.false
