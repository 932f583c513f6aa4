-- `store_word`: four bytes, one behind the other.
use Rattle.std.proofs.Common.{refl, ◌∙◌, arith}
use Rattle.std.proofs.lemmas.Slice.{put_mid-paste}
use Rattle.host.specs.BytesLaws.{stored_word, pasted_word}
use Rattle.host.proofs.store_word.Goals as goal

pub returns : goal.returns
returns c =
    let a = c.args in
    put_mid-paste a.at _ a.out.now c.copy_from_slice.new.self c.to_le_bytes.result 4 c.copy_from_slice.ensures.after (omega arith) (rw c.to_le_bytes.ensures refl)
    ∙ rw c.to_le_bytes.ensures (pasted_word a.out.now a.at _ _ _ _ c.requires ∙ stored_word a.out.now a.at a.w _ _ _ _ refl refl refl refl)
