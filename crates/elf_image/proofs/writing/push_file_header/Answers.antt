use Rattle.elf_image.proofs.Written.{header_made}
use Rattle.elf_image.proofs.writing.push_file_header.Goals as goal

pub returns : goal.returns
returns c =
    rw (c.in_ok-push_sizes.ensures, c.in_ok-push.ensures, c.in_ok-push_number-2.ensures, c.in_ok-push_number.ensures, c.in_ok-push_kind.ensures, c.in_ok-push_ident.ensures)
    (header_made c.args.file.now.items c.args.entry c.args.count)
