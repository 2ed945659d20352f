-- What the cookbook's rule files say.
use Rattle.std.proofs.Common.{◌≡◌, Ok, refl}
use Rattle.vir_read.specs.Tokens.{tokens_from}
use Rattle.vir_read.specs.Grammar.{tree_within}
use Rattle.vir_book.specs.Books.{rule_of}
use Rattle.vir_cookbook.specs.Cookbook as rule
use Rattle.vir_cookbook.specs.Files as file

pub baldwin_read : rule_of file.baldwin ≡ Ok rule.baldwin
unfolding tokens_from tree_within
baldwin_read = refl

pub benham_read : rule_of file.benham ≡ Ok rule.benham
unfolding tokens_from tree_within
benham_read = refl

pub borda_read : rule_of file.borda ≡ Ok rule.borda
unfolding tokens_from tree_within
borda_read = refl

pub black_read : rule_of file.black ≡ Ok rule.black
unfolding tokens_from tree_within
black_read = refl

pub copeland_read : rule_of file.copeland ≡ Ok rule.copeland
unfolding tokens_from tree_within
copeland_read = refl

pub copeland_then_borda_read : rule_of file.copeland_then_borda ≡ Ok rule.copeland_then_borda
unfolding tokens_from tree_within
copeland_then_borda_read = refl

pub instant_runoff_read : rule_of file.instant_runoff ≡ Ok rule.instant_runoff
unfolding tokens_from tree_within
instant_runoff_read = refl

pub minimax_read : rule_of file.minimax ≡ Ok rule.minimax
unfolding tokens_from tree_within
minimax_read = refl

pub nanson_schwartz_read : rule_of file.nanson_schwartz ≡ Ok rule.nanson_schwartz
unfolding tokens_from tree_within
nanson_schwartz_read = refl

pub nanson_read : rule_of file.nanson ≡ Ok rule.nanson
unfolding tokens_from tree_within
nanson_read = refl

pub plurality_read : rule_of file.plurality ≡ Ok rule.plurality
unfolding tokens_from tree_within
plurality_read = refl

pub plurality_then_elect_read : rule_of file.plurality_then_elect ≡ Ok rule.plurality_then_elect
unfolding tokens_from tree_within
plurality_then_elect_read = refl

pub raynaud_read : rule_of file.raynaud ≡ Ok rule.raynaud
unfolding tokens_from tree_within
raynaud_read = refl

pub sequential_majority_read : rule_of file.sequential_majority ≡ Ok rule.sequential_majority
unfolding tokens_from tree_within
sequential_majority_read = refl

pub shortlist_of_two_read : rule_of file.shortlist_of_two ≡ Ok rule.shortlist_of_two
unfolding tokens_from tree_within
shortlist_of_two_read = refl

pub shortlist_read : rule_of file.shortlist ≡ Ok rule.shortlist
unfolding tokens_from tree_within
shortlist_read = refl

pub two_candidate_runoff_read : rule_of file.two_candidate_runoff ≡ Ok rule.two_candidate_runoff
unfolding tokens_from tree_within
two_candidate_runoff_read = refl
