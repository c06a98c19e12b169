use Rattle.scalar_val.proofs.json_text.write_uuid.Goals as goal

pub returns-clause-ok : goal.returns-clause-ok
returns-clause-ok c =
    let text = rw (c.hyphenated.ensures, c.from_u128.ensures) at c.encode_lower-text.ensures.text in
    rw text at (rw c.as_bytes.ensures.value at c.write_in_quotes.ensures.ok)
