use Rattle.common.proofs.Said.{again, tried, failed}
use Rattle.std.proofs.Common.{arith, rules}
use Rattle.stats_file.proofs.Parts.{groupings, first_room, second_fits, second_kept, second_room, third_fits, third_kept, third_room}
use Rattle.stats_file.proofs.columns.read_groups.Goals as goal

pub read_group-requires : goal.read_group-requires
read_group-requires c = search (first_room, rules)

pub overflow_add-second : goal.overflow_add-second
overflow_add-second c = search (second_fits, tried _ _ _ c.branch-clustering.ensures c.in_ok-clustering.is)

pub overflow_add-third : goal.overflow_add-third
overflow_add-third c =
    let e = tried _ _ _ c.branch-clustering.ensures c.in_ok-clustering.is in
    search (third_fits, e, tried _ _ _ c.branch-statics.ensures c.in_ok-statics.is)

pub returns-in_err-clustering : goal.returns-in_err-clustering
returns-in_err-clustering c = rw (again _ _ c.from_residual.ensures) (search (groupings, failed _ _ _ c.branch-clustering.ensures c.in_err-clustering.is))

pub returns-in_err-statics : goal.returns-in_err-statics
returns-in_err-statics c =
    let e = tried _ _ _ c.branch-clustering.ensures c.in_ok-clustering.is in
    rw (again _ _ c.from_residual-in_err-statics.ensures) (search (groupings, e, failed _ _ _ c.branch-statics.ensures c.in_err-statics.is))

pub returns-in_err-regulars : goal.returns-in_err-regulars
returns-in_err-regulars c =
    let e = tried _ _ _ c.branch-clustering.ensures c.in_ok-clustering.is in
    let f = tried _ _ _ c.branch-statics.ensures c.in_ok-statics.is in
    rw (again _ _ c.from_residual-in_err-regulars.ensures) (search (groupings, e, f, failed _ _ _ c.branch-regulars.ensures c.in_err-regulars.is))

pub returns : goal.returns
returns c =
    let e = tried _ _ _ c.branch-clustering.ensures c.in_ok-clustering.is in
    let f = tried _ _ _ c.branch-statics.ensures c.in_ok-statics.is in
    search (groupings, e, f, tried _ _ _ c.branch-regulars.ensures c.in_ok-regulars.is)

pub read_group-requires-2 : goal.read_group-requires-2
read_group-requires-2 c = search (second_kept, second_room, tried _ _ _ c.branch-clustering.ensures c.in_ok-clustering.is, rules)

pub read_group-requires-3 : goal.read_group-requires-3
read_group-requires-3 c =
    let e = tried _ _ _ c.branch-clustering.ensures c.in_ok-clustering.is in
    let f = tried _ _ _ c.branch-statics.ensures c.in_ok-statics.is in (
      third_kept _ _ _ _ _ _ c.read_group.ensures _ _ e _ _ c.read_group-2.ensures _ _ f,
      third_room _ _ _ _ _ _ c.read_group.ensures _ _ e _ _ c.read_group-2.ensures _ _ f (omega arith),
      omega arith,
    )
