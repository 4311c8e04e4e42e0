use Rattle.hbc_json.proofs.Laws.{too_long, too_few, is_room, is_put, is_small}
use Rattle.hbc_json.proofs.strings_json.Goals as goal

pub returns-then-storage-gt-LIMIT : goal.returns-then-storage-gt-LIMIT
returns-then-storage-gt-LIMIT c = too_long _ _ _ _ c.if-storage-gt-LIMIT.true c.refuse.ensures

pub returns-then-rows-count : goal.returns-then-rows-count
returns-then-rows-count c = too_few _ _ _ _ c.if-storage-gt-LIMIT.false c.if-rows-count.true c.refuse-then-rows-count.ensures

pub put_array-requires : goal.put_array-requires
put_array-requires c = is_room c.args.storage.now c.args.rows.now c.args.count c.args.out.now c.if-storage-gt-LIMIT.false c.if-rows-count.false c.enough.ensures c.if-enough.true

pub returns-then-enough : goal.returns-then-enough
returns-then-enough c = is_put c.args.storage.now c.args.rows.now c.args.count c.args.out.now c.if-storage-gt-LIMIT.false c.if-rows-count.false c.enough.ensures c.if-enough.true c.put_array.ensures.0 c.put_array.ensures.1

pub returns : goal.returns
returns c = is_small c.args.storage.now c.args.rows.now c.args.count c.args.out.now c.if-storage-gt-LIMIT.false c.if-rows-count.false c.enough.ensures c.if-enough.false c.refuse-2.ensures
