use Rattle.masking.proofs.Masks.{forced_least, refused_exactly, granted_while_few_lost, writing_masks}
use Rattle.masking.proofs.writing.write.Goals as goal

pub returns : goal.returns
returns g c =
    let code = g.C.Code.meaning c.args.code.now in
    let laws = g.met.C.Code.lawful c.args.code.now in
    let h = c.write_lowest.ensures in
    record {
      written = h;
      refused_exactly = refused_exactly code laws c.args.floors.now c.args.allowance c.args.message.now c.args.word.now c.write_lowest.result c.write_lowest.new.word h;
      granted_while_few_lost = granted_while_few_lost code laws c.args.floors.now c.args.allowance c.args.message.now c.args.word.now c.write_lowest.result c.write_lowest.new.word h;
      forced_least = forced_least code laws c.args.floors.now c.args.allowance c.args.message.now c.args.word.now c.write_lowest.result c.write_lowest.new.word h;
      masking_code = writing_masks code laws c.args.allowance;
    }
