-- Each rule file of the cookbook is read as its term.
use Rattle.vir_cookbook.proofs.ReadFiles as file
use Rattle.vir_cookbook.proofs.files.rule_files_are_read.Goals as goal

pub returns-clause-baldwin : goal.returns-clause-baldwin
returns-clause-baldwin c = file.baldwin_read

pub returns-clause-benham : goal.returns-clause-benham
returns-clause-benham c = file.benham_read

pub returns-clause-borda : goal.returns-clause-borda
returns-clause-borda c = file.borda_read

pub returns-clause-black : goal.returns-clause-black
returns-clause-black c = file.black_read

pub returns-clause-copeland : goal.returns-clause-copeland
returns-clause-copeland c = file.copeland_read

pub returns-clause-copeland_then_borda : goal.returns-clause-copeland_then_borda
returns-clause-copeland_then_borda c = file.copeland_then_borda_read

pub returns-clause-instant_runoff : goal.returns-clause-instant_runoff
returns-clause-instant_runoff c = file.instant_runoff_read

pub returns-clause-minimax : goal.returns-clause-minimax
returns-clause-minimax c = file.minimax_read

pub returns-clause-nanson_schwartz : goal.returns-clause-nanson_schwartz
returns-clause-nanson_schwartz c = file.nanson_schwartz_read

pub returns-clause-nanson : goal.returns-clause-nanson
returns-clause-nanson c = file.nanson_read

pub returns-clause-plurality : goal.returns-clause-plurality
returns-clause-plurality c = file.plurality_read

pub returns-clause-plurality_then_elect : goal.returns-clause-plurality_then_elect
returns-clause-plurality_then_elect c = file.plurality_then_elect_read

pub returns-clause-raynaud : goal.returns-clause-raynaud
returns-clause-raynaud c = file.raynaud_read

pub returns-clause-sequential_majority : goal.returns-clause-sequential_majority
returns-clause-sequential_majority c = file.sequential_majority_read

pub returns-clause-shortlist_of_two : goal.returns-clause-shortlist_of_two
returns-clause-shortlist_of_two c = file.shortlist_of_two_read

pub returns-clause-shortlist : goal.returns-clause-shortlist
returns-clause-shortlist c = file.shortlist_read

pub returns-clause-two_candidate_runoff : goal.returns-clause-two_candidate_runoff
returns-clause-two_candidate_runoff c = file.two_candidate_runoff_read
