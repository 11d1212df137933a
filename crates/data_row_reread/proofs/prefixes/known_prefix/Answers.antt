use Rattle.data_row_reread.proofs.KnownPrefixes.{prefixes}
use borrow.Author.Rules.{rules}
use Rattle.data_row_reread.proofs.prefixes.known_prefix.Goals as goal

pub known_header-header-requires : goal.known_header-header-requires
known_header-header-requires c = search (prefixes, rules) depth 12

pub skip_known-next-requires : goal.skip_known-next-requires
skip_known-next-requires c = search (prefixes, rules) depth 12

pub returns : goal.returns
returns c = search (prefixes, rules) depth 12
