use borrow.Author.Rules.{rules}
use native.Mathlib.Omega.{arith}
use Rattle.bits.specs.Answers.{table_of}
use Rattle.bits.proofs.Reading.{header_short, header_more, header_bad}
use Rattle.bits.proofs.Starting.{code_told}
use Rattle.bits.proofs.read_header.Goals as goal

pub returns-then-s-lt4 : goal.returns-then-s-lt4
returns-then-s-lt4 c =
    let a = c.args in
    rw (header_short a.code (table_of 24 a.table.now) a.s.now (omega arith))

pub returns-then-starts_with : goal.returns-then-starts_with
returns-then-starts_with c =
    let code = c.args.code in
    let told = code_told _ code (search rules) c.starts_with.ensures c.if-starts_with.true in
    let a = c.args in
    rw (header_more code (table_of 24 a.table.now) a.s.now (omega arith) told) c.read_fields.ensures

pub returns-else-starts_with : goal.returns-else-starts_with
returns-else-starts_with c =
    let a = c.args in
    let told = code_told _ a.code (search rules) c.starts_with.ensures c.if-starts_with.false in
    rw (header_bad a.code (table_of 24 a.table.now) a.s.now (omega arith) told)
