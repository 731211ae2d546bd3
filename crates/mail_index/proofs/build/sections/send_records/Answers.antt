-- `send_records` writes all records as one text, record by record.
use Rattle.mail_index.proofs.Words.{◌≡◌, get_or, [], ◌++◌, None, false, ◌∙◌, arith, common_steps, Record, record_bytes}
use Rattle.mail_index.proofs.BuildLaws.SigningLemmas.{signing-next, signing-stop, bytes-from}
use Rattle.mail_index.proofs.build.sections.send_records.Goals as goal

abbrev none : Record
none = record {
  archive = 0;
  offset = 0;
  length = 0;
  size = 0;
  date = None;
  flags =
      record { seen = false; replied = false; flagged = false };
}

pub returns-in_err-send_parts-clause-written : goal.returns-in_err-send_parts-clause-written
returns-in_err-send_parts-clause-written g c =
    let whole : c.as_flattened.result.now ++ (c.as_flattened-in-loop-message.result.now ++ [])
    ≡ record_bytes (get_or c.args.messages.now c.loop-message.message-index none) = grind (arith, common_steps) in
    signing-stop _ _ _ (record_bytes (get_or c.args.messages.now c.loop-message.message-index none)) _
    c.from_residual.ensures.0 c.loop-message.invariant.0 (bytes-from record_bytes _ _ none c.loop-message-test.true)
    (rw whole at c.in_err-send_parts.ensures.written)

pub loop-message-preserved : goal.loop-message-preserved
loop-message-preserved g c =
    let whole : c.as_flattened.result.now ++ (c.as_flattened-in-loop-message.result.now ++ [])
    ≡ record_bytes (get_or c.args.messages.now c.loop-message.message-index none) = grind (arith, common_steps) in (
      signing-next _ _ c.loop-message.invariant.0 (bytes-from record_bytes _ _ none c.loop-message-test.true)
          (rw whole at c.in_ok-send_parts.ensures.written),
      c.in_ok-send_parts.ensures.count ∙ c.loop-message.invariant.1,
    )
