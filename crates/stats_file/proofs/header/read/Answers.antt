use Rattle.common.proofs.Said.{again, tried, failed}
use Rattle.stats_file.proofs.Parts.{headers}
use Rattle.std.proofs.Common.{rules}
use Rattle.stats_file.proofs.header.read.Goals as goal

pub read_columns-requires : goal.read_columns-requires
read_columns-requires c = search (headers, rules)

pub returns-in_err-bases : goal.returns-in_err-bases
returns-in_err-bases c = rw (again _ _ c.from_residual.ensures) (search (headers, failed _ _ _ c.branch-bases.ensures c.in_err-bases.is))

pub returns-in_err-next : goal.returns-in_err-next
returns-in_err-next c =
    let e = tried _ _ _ c.branch-bases.ensures c.in_ok-bases.is in
    rw (again _ _ c.from_residual-in_err-next.ensures) (search (headers, e, failed _ _ _ c.branch-next.ensures c.in_err-next.is))

pub read_groups-requires : goal.read_groups-requires
read_groups-requires c =
    let e = tried _ _ _ c.branch-bases.ensures c.in_ok-bases.is in
    search (headers, e, tried _ _ _ c.branch-next.ensures c.in_ok-next.is, rules)

pub returns-in_err-sizes : goal.returns-in_err-sizes
returns-in_err-sizes c =
    let e = tried _ _ _ c.branch-bases.ensures c.in_ok-bases.is in
    let f = tried _ _ _ c.branch-next.ensures c.in_ok-next.is in
    rw (again _ _ c.from_residual-in_err-sizes.ensures) (search (headers, e, f, failed _ _ _ c.branch-sizes.ensures c.in_err-sizes.is))

pub returns-then-next-end : goal.returns-then-next-end
returns-then-next-end c =
    let e = tried _ _ _ c.branch-bases.ensures c.in_ok-bases.is in
    let f = tried _ _ _ c.branch-next.ensures c.in_ok-next.is in
    rw c.at.ensures (search (headers, e, f, tried _ _ _ c.branch-sizes.ensures c.in_ok-sizes.is))

pub returns : goal.returns
returns c =
    let e = tried _ _ _ c.branch-bases.ensures c.in_ok-bases.is in
    let f = tried _ _ _ c.branch-next.ensures c.in_ok-next.is in
    search (headers, e, f, tried _ _ _ c.branch-sizes.ensures c.in_ok-sizes.is)
