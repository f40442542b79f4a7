-- What of a head says where chunks lie, as the crate below defines it.
pub use Rattle.exr_judge.specs.declared.header.Header.{Header}
pub use Rattle.exr_judge.specs.declared.kind.PartKind.{PartKind}
pub use Rattle.exr_judge.specs.declared.kind.PartKind.TheVariants.{Scan, Tiled, DeepScan, DeepTiled}
pub use Rattle.exr_judge.specs.declared.kind.LineOrder.{LineOrder}
pub use Rattle.exr_judge.specs.declared.kind.LineOrder.TheVariants.{Increasing, Decreasing, Random}
pub use Rattle.exr_judge.specs.declared.kind.Tiles.{Tiles}
pub use Rattle.exr_judge.specs.Kind.{is_tiled, is_deep}
pub use Rattle.exr_judge.specs.Picture.{pieces, columns_of, rows_of, chunk_width, chunk_height, is_everywhere, is_sampled_well, AreTiles, IsPicture}
unfoldable pub use Rattle.exr_judge.specs.Picture.{chunk_count_of, raw_chunk_of}
