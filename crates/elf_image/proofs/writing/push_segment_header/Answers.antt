use Rattle.elf_image.proofs.Written.{segment_made}
use Rattle.elf_image.proofs.writing.push_segment_header.Goals as goal

pub returns : goal.returns
returns c =
    rw (c.in_ok-push_number-6.ensures, c.in_ok-push_number-5.ensures, c.in_ok-push_number-4.ensures, c.in_ok-push_number-3.ensures, c.in_ok-push_number-2.ensures, c.in_ok-push_number.ensures, c.in_ok-push-2.ensures, c.in_ok-push.ensures, c.to_le_bytes.ensures, c.to_le_bytes-2.ensures, c.len.ensures)
    (segment_made c.args.file.now.items c.args.at c.args.segment.now)
