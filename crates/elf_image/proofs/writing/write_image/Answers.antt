use Rattle.elf_image.proofs.Written.{reads_back, file_made}
use Rattle.elf_image.proofs.writing.write_image.Goals as goal

pub returns-in_err-push_file_header-clause-reads_back : goal.returns-in_err-push_file_header-clause-reads_back
returns-in_err-push_file_header-clause-reads_back c = reads_back c.args.image.now c.segments-segments.ensures.program c.requires

pub returns-in_err-push_table-clause-reads_back : goal.returns-in_err-push_table-clause-reads_back
returns-in_err-push_table-clause-reads_back c = reads_back c.args.image.now c.segments-segments.ensures.program c.requires

pub returns-in_err-push_contents-clause-reads_back : goal.returns-in_err-push_contents-clause-reads_back
returns-in_err-push_contents-clause-reads_back c = reads_back c.args.image.now c.segments-segments.ensures.program c.requires

pub returns-clause-reads_back : goal.returns-clause-reads_back
returns-clause-reads_back c = reads_back c.args.image.now c.segments-segments.ensures.program c.requires

pub returns-clause-value : goal.returns-clause-value
returns-clause-value c =
    file_made c.args.image.now _ _ _ _ _ _ c.new-file.ensures.items c.in_ok-push_file_header.ensures c.in_ok-push_table.ensures c.in_ok-push_contents.ensures c.entry.ensures.value c.segments-segments.ensures.value
