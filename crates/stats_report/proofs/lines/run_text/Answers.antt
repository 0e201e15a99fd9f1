use Rattle.stats_report.proofs.lines.run_text.Goals as goal

-- the parts, one after another
pub returns : goal.returns
returns c = cc (
  c.in_ok-text.ensures,
  c.in_ok-extend_from_slice.ensures.items,
  c.in_ok-extend_from_slice-2.ensures.items,
  c.in_ok-extend_from_slice-3.ensures.items,
  c.in_ok-extend_from_slice-4.ensures.items,
  c.in_ok-extend_from_slice-5.ensures.items,
  c.as_bytes.ensures.value,
  c.as_bytes-2.ensures.value,
  c.as_bytes-3.ensures.value,
  c.as_bytes-4.ensures.value,
  c.in_ok-end_line.ensures,
  c.in_ok-events_line.ensures,
  c.in_ok-tile_lines.ensures,
  c.in_ok-total_line.ensures,
)
