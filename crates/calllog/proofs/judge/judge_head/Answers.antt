use borrow.Author.Rules.{rules}
use Rattle.calllog.proofs.Verdicts.{heads}
use Rattle.calllog.proofs.judge.judge_head.Goals as goal

pub returns-then-bytes-lt-HEAD_SIZE : goal.returns-then-bytes-lt-HEAD_SIZE
returns-then-bytes-lt-HEAD_SIZE c = search (heads, rules)

pub returns-then-not-opens_file : goal.returns-then-not-opens_file
returns-then-not-opens_file c = search (heads, rules)

pub returns-then-is_beyond : goal.returns-then-is_beyond
returns-then-is_beyond c = search (heads, rules)

pub returns-then-traces-gt-MOST_TRACES : goal.returns-then-traces-gt-MOST_TRACES
returns-then-traces-gt-MOST_TRACES c = search (heads, rules)

pub returns-then-bytes-bodies_start : goal.returns-then-bytes-bodies_start
returns-then-bytes-bodies_start c = search (heads, rules)

pub returns : goal.returns
returns c = search (heads, rules)
