use Rattle.class_pool.proofs.TagBytes.{tag_read, tag_only}
use Rattle.class_pool.proofs.law.tags_read_back.Goals as goal

pub returns-clause-read : goal.returns-clause-read
returns-clause-read c = tag_read

pub returns-clause-only : goal.returns-clause-only
returns-clause-only c = tag_only
