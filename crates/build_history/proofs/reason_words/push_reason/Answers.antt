use Rattle.std.proofs.Common.{◌++◌, string_bytes, codes}
use Rattle.item_types.specs.Printed.{proxy_text}
use Rattle.build_history.specs.ReasonText.{item_text}
use Rattle.build_history.proofs.Pieces.{after}
use Rattle.build_history.proofs.reason_words.push_reason.Goals as goal

pub returns-in_ok-push_str-in-RuntimeInStatic-2 : goal.returns-in_ok-push_str-in-RuntimeInStatic-2
returns-in_ok-push_str-in-RuntimeInStatic-2 c =
    rw c.in-RuntimeInStatic.is (
    after (string_bytes c.args.out.now) (string_bytes c.push_proxy.new.out) (string_bytes c.push_str-in-RuntimeInStatic-2.new.self) (codes "runtime proxy " ++ proxy_text c.in-RuntimeInStatic.proxy) (codes " in a static step")
    (after (string_bytes c.args.out.now) (string_bytes c.push_str-in-RuntimeInStatic.new.self) (string_bytes c.push_proxy.new.out) (codes "runtime proxy ") (proxy_text c.in-RuntimeInStatic.proxy) c.in_ok-push_str-in-RuntimeInStatic.ensures.bytes c.in_ok-push_proxy-in-RuntimeInStatic.ensures)
    c.in_ok-push_str-in-RuntimeInStatic-2.ensures.bytes
    )

pub returns-in_ok-write-in-TooDeep : goal.returns-in_ok-write-in-TooDeep
returns-in_ok-write-in-TooDeep c = rw c.in-TooDeep.is c.in_ok-write-in-TooDeep.ensures.bytes

pub returns-in_ok-push_item-in-TooManyTaken : goal.returns-in_ok-push_item-in-TooManyTaken
returns-in_ok-push_item-in-TooManyTaken c =
    rw c.in-TooManyTaken.is (
    after (string_bytes c.args.out.now) (string_bytes c.push_str-in-TooManyTaken.new.self) (string_bytes c.push_item-in-TooManyTaken.new.out) (codes "too much taken of ") (item_text c.args.names.now c.in-TooManyTaken.item) c.in_ok-push_str-in-TooManyTaken.ensures.bytes c.in_ok-push_item-in-TooManyTaken.ensures
    )

pub returns-in_ok-push_str-in-TooManyTurns : goal.returns-in_ok-push_str-in-TooManyTurns
returns-in_ok-push_str-in-TooManyTurns c = rw c.in-TooManyTurns.is c.in_ok-push_str-in-TooManyTurns.ensures.bytes

pub returns-in_ok-push_str-in-TooManyCells : goal.returns-in_ok-push_str-in-TooManyCells
returns-in_ok-push_str-in-TooManyCells c = rw c.in-TooManyCells.is c.in_ok-push_str-in-TooManyCells.ensures.bytes

pub returns-in_ok-push_str-in-TooMuchText : goal.returns-in_ok-push_str-in-TooMuchText
returns-in_ok-push_str-in-TooMuchText c = rw c.in-TooMuchText.is c.in_ok-push_str-in-TooMuchText.ensures.bytes

pub returns-in_ok-push_str-in-TooManyRecorded : goal.returns-in_ok-push_str-in-TooManyRecorded
returns-in_ok-push_str-in-TooManyRecorded c = rw c.in-TooManyRecorded.is c.in_ok-push_str-in-TooManyRecorded.ensures.bytes
