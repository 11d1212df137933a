use Rattle.common.proofs.Choose.{cases, told}
use Rattle.sstable_data.specs.Data.{phase_of}
use borrow.Author.Rules.{rules}
use Rattle.sstable_data.proofs.data_db.phase_of.Goals as goal

pub returns-then-n-eq1 : goal.returns-then-n-eq1
unfolding phase_of
returns-then-n-eq1 c = search (told, cases, rules) depth 12

pub returns-then-n-eq2 : goal.returns-then-n-eq2
unfolding phase_of
returns-then-n-eq2 c = search (told, cases, rules) depth 12

pub returns-then-n-eq3 : goal.returns-then-n-eq3
unfolding phase_of
returns-then-n-eq3 c = search (told, cases, rules) depth 12

pub returns-then-n-eq4 : goal.returns-then-n-eq4
unfolding phase_of
returns-then-n-eq4 c = search (told, cases, rules) depth 12

pub returns-then-n-eq5 : goal.returns-then-n-eq5
unfolding phase_of
returns-then-n-eq5 c = search (told, cases, rules) depth 12

pub returns-then-n-eq6 : goal.returns-then-n-eq6
unfolding phase_of
returns-then-n-eq6 c = search (told, cases, rules) depth 12

pub returns : goal.returns
unfolding phase_of
returns c = search (told, cases, rules) depth 12
