-- `search` meets its contract. Assumes nothing.
use borrow.Author.Rules.{rules}
use Rattle.reachability.proofs.SearchLaw.{search_laws}
use Rattle.reachability.proofs.search.Goals as goal

pub open_states-requires : goal.open_states-requires
open_states-requires c = search (rules, search_laws)

pub overflow_add-most : goal.overflow_add-most
overflow_add-most c = search (rules, search_laws)

pub spread-requires : goal.spread-requires
spread-requires c = search (rules, search_laws)

pub returns : goal.returns
returns c = record { searched = search (rules, search_laws); same = search (rules, search_laws) }
