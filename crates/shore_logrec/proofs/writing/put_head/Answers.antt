use Rattle.shore_logrec.proofs.Puttings.{head_filled}
use Rattle.shore_logrec.proofs.writing.put_head.Goals as goal

pub returns : goal.returns
returns c =
    head_filled c.logged.view_is c.kind_of.result c.payload_len.result c.kind_of.ensures c.payload_len.ensures.len c.write_u64.ensures c.write_u64-2.ensures
    c.write_u32.ensures c.put.ensures
