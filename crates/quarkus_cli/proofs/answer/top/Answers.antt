use Rattle.std.proofs.Common.{map, string_bytes}
use Rattle.quarkus_cli.proofs.Tops.{dispatched, words_memory, words_refused}
use Rattle.quarkus_cli.proofs.answer.top.Goals as goal

pub returns-in-Ok : goal.returns-in-Ok
returns-in-Ok g c =
    record { answers = dispatched (map string_bytes c.args.words.now) c.in-Ok.command _ _ c.dispatch.result c.in-Ok.ensures.value c.dispatch.ensures }

pub returns-in-Err-Refused : goal.returns-in-Err-Refused
returns-in-Err-Refused g c =
    record {
      answers = words_refused (map string_bytes c.args.words.now) c.in-Err-Refused.field-0 _ _ c.deliver_parts.result c.in-Err-Refused.ensures.value
          c.in-Err-Refused.field-0-is c.deliver_parts.ensures;
    }

pub returns-in-Err-Memory : goal.returns-in-Err-Memory
returns-in-Err-Memory g c = record { answers = words_memory (map string_bytes c.args.words.now) _ _ }
