pub mod Pcap
