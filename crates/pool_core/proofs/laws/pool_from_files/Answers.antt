use Rattle.pool_core.proofs.FromFiles.{files_follow, from_beginning, from_files, from_files_known, list_has_times}
use Rattle.pool_core.proofs.laws.pool_from_files.Goals as goal

pub returns-clause-list : goal.returns-clause-list
returns-clause-list c = from_files

pub returns-clause-beginning : goal.returns-clause-beginning
returns-clause-beginning c = from_beginning

pub returns-clause-times : goal.returns-clause-times
returns-clause-times c = list_has_times

pub returns-clause-known : goal.returns-clause-known
returns-clause-known c = from_files_known

pub returns-clause-files : goal.returns-clause-files
returns-clause-files c = files_follow
